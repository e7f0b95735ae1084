use Rattle.std.proofs.Common.{◌≡◌, ◌%◌, ◌^◌}
use Rattle.gf2.specs.Polynomials.{times}
use Rattle.gf2.proofs.multiply.product.Given as goal

-- the product of the n lowest digits
abbrev pub invariant-loop-n : goal.invariant-loop-n
invariant-loop-n l = l.sum ≡ times (l.a % 2 ^ l.n) l.b
