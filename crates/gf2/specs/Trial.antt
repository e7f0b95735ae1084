-- Trial division. Assumes nothing.
use Rattle.std.specs.Prelude.{ℕ, ◌≤◌}
use Rattle.gf2.specs.Polynomials.{degree, Divides}

-- a polynomial of degree 1 to m divides f
abbrev pub Factor : ℕ → ℕ → Type 0
Factor m f = (g : ℕ) × (1 ≤ degree g) × (degree g ≤ m) × Divides g f

-- the degree is at least 1, and no polynomial of degree 1 to m divides f
unfoldable pub Tried : ℕ → ℕ → Type 0
Tried m f = (1 ≤ degree f) × (Factor m f → ⊥)
