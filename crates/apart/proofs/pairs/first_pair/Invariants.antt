use Rattle.std.proofs.Common.{ℕ, ◌<◌, false}
use Rattle.apart.proofs.pairs.first_pair.Given as goal

abbrev pub invariant-loop-first : goal.invariant-loop-first
invariant-loop-first g l = (c d : ℕ) → c < l.first → c < d → d < l.end → goal.F-post g l.passes c d false

abbrev pub invariant-loop-second : goal.invariant-loop-second
invariant-loop-second g l = (d : ℕ) → d < l.second → l.first < d → goal.F-post g l.passes l.first d false
