-- One feedback on trial. Assumes nothing.
use Rattle.std.specs.Prelude.{◌≡◌, ℕ, ◌<◌, List, length, slice_index}
use Rattle.faults.specs.Meaning.{Faults, entry, combined}
use Rattle.apart.specs.Apart.{Differ}
use Rattle.apart.specs.Residues.{WordsUpTo}

-- entries of different class whose errors pick the same from a table
pub record Clashing (m : Faults) (table : List ℕ) (a b : ℕ) : Type 0 where
  pub differ : Differ m a b
  pub same : combined m a table ≡ combined m b table

-- entry k, one of those that have these words, has this word and another class
pub record Meets (m : Faults) (words : List ℕ) (word class k : ℕ) : Type 0 where
  pub among : k < length words
  pub same : slice_index words k ≡ word
  pub classes : (entry m k).class ≡ class → ⊥

-- the first i words are what the errors of the first i entries pick from a table, the others are 0, and no two of these entries clash
pub record Seen (m : Faults) (table words : List ℕ) (i : ℕ) : Type 0 where
  pub picks : WordsUpTo m table words i
  pub apart : (a b : ℕ) → a < i → b < i → Clashing m table a b → ⊥

-- the same, closed to the prover where it only has to be carried on
unfoldable pub Trial : Faults → List ℕ → List ℕ → ℕ → Type 0
Trial m table words i = Seen m table words i
