-- What is answered about the pairs of a list. Assumes nothing.
use Rattle.std.specs.Prelude.{◌≡◌, ℕ, Option, Result, MatchResult}
use Rattle.std.specs.Option as option
use Rattle.refusal.specs.declared.reason.Refusal.{Refusal}
use Rattle.refusal.specs.declared.reason.Refusal.TheVariants.{NotAFeedback}
use Rattle.gf2.specs.Feedbacks.{IsFeedback}
use Rattle.faults.specs.Meaning.{Faults}
use Rattle.apart.specs.Apart.{Confuses, KeepsApart, EqualErrors, Distinct, First}
use Rattle.apart.specs.declared.answers.Pair.{Pair}

-- no pair has equal errors; or the first that has, and then no polynomial keeps the list apart
abbrev pub FindsEqual : Faults → Option Pair → Type 0
FindsEqual m r = option.MatchOption r (Distinct m) (λ p. First (EqualErrors m) p.first p.second × ((f : ℕ) → KeepsApart f m → ⊥))

-- f confuses no pair; or the first that it confuses
abbrev pub FindsConfused : ℕ → Faults → Option Pair → Type 0
FindsConfused f m r = option.MatchOption r (KeepsApart f m) (λ p. First (Confuses f m) p.first p.second)

-- the verdict on the feedback of a code, refused exactly where the code is no feedback's
abbrev pub Judges : ℕ → Faults → Result (Option Pair) Refusal → Type 0
Judges code m r = MatchResult r (λ o. IsFeedback code × FindsConfused code m o) (λ e. (e ≡ NotAFeedback) × (IsFeedback code → ⊥))
