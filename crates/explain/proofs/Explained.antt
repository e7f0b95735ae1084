-- What an explanation says.
use Rattle.std.proofs.Common.{◌≡◌, ℕ, Bool, List, length, subst, inl}
use Rattle.gf2.specs.Polynomials.{degree, residue}
use Rattle.gf2.specs.Responses.{polynomial}
use Rattle.gf2.specs.Feedbacks.{IsFeedback}
use Rattle.gf2.specs.declared.feedback.Feedback.{Feedback}
use Rattle.explain.specs.declared.explanation.Explanation.{Explanation}
use Rattle.explain.specs.Answers.{lines, quotient_text, Explains}
use Rattle.explain.specs.Quotient.{Quotient}
use Rattle.explain.specs.Spelling.{spelled}

pub explains : (f : Feedback) (e : Explanation) (code : ℕ) (bits : List Bool) (text : List ℕ) → (f.code ≡ code) × IsFeedback code → e.feedback ≡ f → e.length ≡ length bits → Quotient f.code (polynomial bits) e.quotient
    → e.remainder ≡ residue f.code (polynomial bits) → text ≡ lines e.feedback.code (spelled e.feedback.code) (degree e.feedback.code) e.length (quotient_text e.quotient) e.remainder → Explains code bits text
explains f e code bits text (same, is) whose len quotient remainder says = inl (is, (e.quotient, subst (λ c. Quotient c (polynomial bits) e.quotient) same quotient, cc))
