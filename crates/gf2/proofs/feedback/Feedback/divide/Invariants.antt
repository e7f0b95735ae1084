use Rattle.std.proofs.Common.{◌≡◌, ◌-◌, ◌/◌, ◌^◌, ◌<◌, bit_xor}
use Rattle.gf2.specs.Polynomials.{times}
use Rattle.gf2.proofs.feedback.Feedback.divide.Given as goal

-- the digits from the n-th on are divided
abbrev pub invariant-loop-n : goal.invariant-loop-n
invariant-loop-n l =
    (l.p / 2 ^ l.n ≡ bit_xor (times l.quotient l.self.code) l.remainder) × (l.remainder < 2 ^ l.self.stages)
    × (l.quotient < 2 ^ (64 - l.n))
