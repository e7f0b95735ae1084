-- A word for each entry, and 0 past the last one, where the good board stands again. Assumes nothing.
use Rattle.std.specs.Prelude.{◌≡◌, ℕ, ◌<◌, ◌≤◌, List, slice_index}
use Rattle.gf2.specs.Polynomials.{residue}
use Rattle.faults.specs.Meaning.{Faults, entry, combined}

-- what its error picks from a table
abbrev pub Words : Faults → List ℕ → List ℕ → Type 0
Words m table words = (i : ℕ) → slice_index words i ≡ combined m i table

-- that of the first i entries, and 0 for the others
pub record WordsUpTo (m : Faults) (table words : List ℕ) (i : ℕ) : Type 0 where
  pub first : (k : ℕ) → k < i → slice_index words k ≡ combined m k table
  pub rest : (k : ℕ) → i ≤ k → slice_index words k ≡ 0

-- the residue of its error by f
abbrev pub residues : ℕ → Faults → ℕ → ℕ
residues f m i = residue f (entry m i).error

abbrev pub Residues : ℕ → Faults → List ℕ → Type 0
Residues f m words = (i : ℕ) → slice_index words i ≡ residues f m i

-- two entries have equal words, and different classes
pub record Alike (m : Faults) (words : List ℕ) (a b : ℕ) : Type 0 where
  pub same : slice_index words a ≡ slice_index words b
  pub classes : (entry m a).class ≡ (entry m b).class → ⊥

-- two entries have equal errors
abbrev pub SameError : Faults → ℕ → ℕ → Type 0
SameError m a b = (entry m a).error ≡ (entry m b).error
