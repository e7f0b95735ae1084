use Rattle.std.proofs.Common.{length}
use Rattle.faults.proofs.ClockLists.{Picked}
use Rattle.faults.proofs.clocks.telling.pick.Given as goal

abbrev pub invariant-loop-clock : goal.invariant-loop-clock
invariant-loop-clock l = Picked (length l.words) l.clock-index l.sum l.words l.clocks
