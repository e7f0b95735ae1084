use Rattle.std.proofs.Common.{◌≡◌}
use Rattle.gf2.specs.Polynomials.{residue}
use Rattle.gf2.proofs.irreducible.remainder.Given as goal

abbrev pub invariant-loop-r : goal.invariant-loop-r
invariant-loop-r l = residue l.divisor l.r ≡ residue l.divisor l.p

abbrev pub decreases-loop-r : goal.decreases-loop-r
decreases-loop-r l = l.r
