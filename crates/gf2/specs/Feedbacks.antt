-- What a feedback polynomial is. Other crates use the parts of this record by their names, and never count them. Assumes nothing.
use Rattle.std.specs.Prelude.{ℕ, ◌≤◌}
use Rattle.gf2.specs.Polynomials.{degree, Irreducible}

-- the code of a feedback: an irreducible polynomial of degree 1 to 24
pub record IsFeedback (code : ℕ) : Type 0 where
  pub irreducible : Irreducible code
  pub most : degree code ≤ 24
