use Rattle.explain.proofs.Divided.{IsDivided}
use Rattle.explain.proofs.quotients.quotient.Given as goal

abbrev pub invariant-loop-bit : goal.invariant-loop-bit
invariant-loop-bit l = IsDivided l.feedback l.bits l.bit-index l.quotient l.remainder
