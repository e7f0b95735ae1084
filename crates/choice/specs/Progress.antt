-- How far the choice has come, as it goes through the codes. Assumes nothing.
use Rattle.std.specs.Prelude.{ℕ, ◌^◌, ◌<◌, ◌≤◌}
use Rattle.gf2.specs.Polynomials.{degree}
use Rattle.gf2.specs.Feedbacks.{IsFeedback}
use Rattle.faults.specs.Meaning.{Faults}
use Rattle.choice.specs.Counting.{Counts}
use Rattle.choice.specs.Choosing.{Fits}

-- a feedback of degree at least low, below code
pub record Passed (low code g : ℕ) : Type 0 where
  pub feedback : IsFeedback g
  pub reaches : low ≤ degree g
  pub below : g < code

-- all codes below this one are done with: none of them fits, and so many feedbacks were tried
pub record Through (m : Faults) (low high code tried : ℕ) : Type 0 where
  pub from : 2 ^ low ≤ code
  pub none : (f : ℕ) → f < code → Fits m low high f → ⊥
  pub counted : Counts (Passed low code) tried

-- the same, closed to the prover where it only has to be carried on
unfoldable pub Progress : Faults → ℕ → ℕ → ℕ → ℕ → Type 0
Progress m low high code tried = Through m low high code tried
