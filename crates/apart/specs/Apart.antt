-- What it means that a feedback keeps a fault list apart. Assumes nothing.
use Rattle.std.specs.Prelude.{◌≡◌, ℕ, ◌<◌, ◌≤◌, ◌⊎◌, length, bit_xor}
use Rattle.gf2.specs.Polynomials.{Divides}
use Rattle.faults.specs.Meaning.{Faults, entries, entry}

-- a and b are entries of different class
pub record Differ (m : Faults) (a b : ℕ) : Type 0 where
  pub first : a < length (entries m)
  pub second : b < length (entries m)
  pub classes : (entry m a).class ≡ (entry m b).class → ⊥

-- f divides the sum of the errors of two entries of different class: their residues by f are equal
pub record Confuses (f : ℕ) (m : Faults) (a b : ℕ) : Type 0 where
  pub differ : Differ m a b
  pub divides : Divides f (bit_xor (entry m a).error (entry m b).error)

abbrev pub KeepsApart : ℕ → Faults → Type 0
KeepsApart f m = (a b : ℕ) → Confuses f m a b → ⊥

-- two entries of different class with equal errors: no polynomial keeps them apart
pub record EqualErrors (m : Faults) (a b : ℕ) : Type 0 where
  pub differ : Differ m a b
  pub equal : (entry m a).error ≡ (entry m b).error

abbrev pub Distinct : Faults → Type 0
Distinct m = (a b : ℕ) → EqualErrors m a b → ⊥

-- of the pairs of which P holds, a and b are the one with the smallest first entry, and then the smallest second
pub record First (P : ℕ → ℕ → Type 0) (a b : ℕ) : Type 0 where
  pub holds : P a b
  pub least : (c d : ℕ) → P c d → (a < c) ⊎ ((a ≡ c) × (b ≤ d))
