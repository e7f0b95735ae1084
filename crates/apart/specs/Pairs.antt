-- Pairs of numbers below an end, in order: by the first number, then by the second. Assumes nothing.
use Rattle.std.specs.Prelude.{◌≡◌, ℕ, ◌<◌, Bool, true, false, ◌⊎◌}
use Rattle.apart.specs.declared.answers.Pair.{Pair}

-- the pair of c and d comes before p
abbrev pub Earlier : Pair → ℕ → ℕ → Type 0
Earlier p c d = (c < p.first) ⊎ ((c ≡ p.first) × (d < p.second))

-- p is the first pair that passes, where a test answers r of a and b if `Answers a b r`
pub record FirstToPass (Answers : ℕ → ℕ → Bool → Type 0) (end : ℕ) (p : Pair) : Type 0 where
  pub order : p.first < p.second
  pub within : p.second < end
  pub passes : Answers p.first p.second true
  pub earlier : (c d : ℕ) → c < d → d < end → Earlier p c d → Answers c d false
