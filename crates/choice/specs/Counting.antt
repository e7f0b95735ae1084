-- How many numbers have a property. Assumes nothing.
use Rattle.std.specs.Prelude.{◌≡◌, ℕ, ◌<◌, List, length, slice_index}

-- the strictly rising list of exactly the numbers of which P holds
pub record Enumerates (P : ℕ → Type 0) (all : List ℕ) : Type 0 where
  pub rising : (i j : ℕ) → i < j → j < length all → slice_index all i < slice_index all j
  pub each : (i : ℕ) → i < length all → P (slice_index all i)
  pub every : (g : ℕ) → P g → (i : ℕ) × (i < length all) × (slice_index all i ≡ g)

-- P holds of exactly n numbers
abbrev pub Counts : (ℕ → Type 0) → ℕ → Type 0
Counts P n = (all : List ℕ) × Enumerates P all × (length all ≡ n)
