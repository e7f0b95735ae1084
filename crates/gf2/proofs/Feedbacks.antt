-- What every feedback keeps: over its code, and over the type.
use Rattle.std.proofs.Common.{◌≡◌, ℕ, ◌*◌, ◌%◌, ◌^◌, ◌<◌, ◌≤◌, sym, subst, arith, pow_mono}
use Rattle.gf2.specs.Polynomials.{degree, Irreducible}
use Rattle.gf2.specs.Feedbacks.{IsFeedback}
use Rattle.gf2.specs.declared.feedback.Feedback.{Feedback}
use Rattle.gf2.proofs.Sums.{Degree}
use Rattle.gf2.proofs.Degrees.{one_degree, degree_at, degree_is, degree_below, below_degree}

irreducible_some : (f : ℕ) → Irreducible f → 0 < f
irreducible_some f i = omega (arith, one_degree f i.0)

pub feedback_some : (f : ℕ) → IsFeedback f → 0 < f
feedback_some f i = irreducible_some f i.irreducible

-- what makes a feedback
pub is_feedback : (f : ℕ) → Irreducible f → degree f ≤ 24 → IsFeedback f
is_feedback f i h = record { irreducible = i; most = h }

-- by the bound on its code
pub feedback_below : (f : ℕ) → IsFeedback f → f < 33554432
feedback_below f i = omega (arith, degree_below f 24 (feedback_some f i) i.most)

pub feedback_made : (f : ℕ) → Irreducible f → f < 33554432 → IsFeedback f
feedback_made f i h = is_feedback f i (below_degree f 24 (irreducible_some f i) (omega arith))

-- a bound on the code, shifted in 64 bits, is whole
pub bound_is : (most : ℕ) → most ≤ 24 → 2 * 2 ^ most % 2 ^ 64 ≡ 2 * 2 ^ most
bound_is most h = let p : 2 ^ most ≤ 2 ^ 24 = pow_mono h in omega arith

-- for `Feedback::new`
pub ruleset making = (feedback_made, feedback_below, one_degree, degree_is)

pub some : (f : Feedback) → 0 < f.code
some f = feedback_some f.code f.lawful

pub has_degree : (f : Feedback) → Degree f.code f.stages
has_degree f = subst (Degree f.code) (sym f.counted) (degree_at f.code (some f))
