-- What the first clocks of a response pick from a table. Assumes nothing.
use Rattle.std.specs.Prelude.{◌≡◌, ℕ, ◌-◌, ◌*◌, ◌^◌, ◌<◌, min, Bool, List}
use Rattle.gf2.specs.Responses.{response}
use Rattle.gf2.specs.Tables.{combination}

-- the response of n bits that has w k at each clock k below j, and 0 from there on
abbrev pub front : ℕ → (ℕ → Bool) → ℕ → ℕ
front n w j = response j w * 2 ^ (n - j)

-- what it picks; clocks from n on pick nothing
abbrev pub picked : ℕ → List ℕ → (ℕ → Bool) → ℕ → ℕ
picked n table w j = combination table (front n w (min j n))

-- of the clocks below n, a test answers what w says
abbrev pub Says : ℕ → (ℕ → Bool → Type 0) → (ℕ → Bool) → Type 0
Says n Test w = (k : ℕ) (b : Bool) → k < n → Test k b → b ≡ w k
