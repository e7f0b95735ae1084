-- Tables of numbers, and what a polynomial picks from one. Assumes nothing.
use Rattle.std.specs.Prelude.{◌≡◌, ℕ, ◌*◌, ◌/◌, ◌%◌, ◌^◌, ◌<◌, List, [], ◌∷◌, length, bit_xor, slice_index}
use Rattle.gf2.specs.Polynomials.{residue}

-- the sum of the numbers at the places that p picks: the number at place i where p has x^i
unfoldable pub combination : List ℕ → ℕ → ℕ
combination [] p = 0
combination (t ∷ ts) p = bit_xor (p % 2 * t) (combination ts (p / 2))

-- a table of the residues by f of x^0, x^1, x^2, and so on
pub record Powers (f : ℕ) (table : List ℕ) : Type 0 where
  pub power : (j : ℕ) → j < length table → slice_index table j ≡ residue f (2 ^ j)
  -- so the residue of a polynomial that it reaches is a sum of its numbers
  pub residues : (p : ℕ) → p < 2 ^ length table → combination table p ≡ residue f p
