use Rattle.std.proofs.Common.{◌≤◌}
use Rattle.choice.specs.Progress.{Progress}
use Rattle.choice.proofs.finding.first_apart.Given as goal

abbrev pub invariant-loop-code : goal.invariant-loop-code
invariant-loop-code g l = Progress (g.L.FaultList.means l.list) l.fn.degrees.low l.fn.degrees.high l.code l.tried × (l.tried ≤ l.code)
