use Rattle.std.proofs.Common.{◌≡◌, length}
use Rattle.faults.specs.Picking.{picked}
use Rattle.faults.specs.Rows.{marks, words_at}
use Rattle.faults.proofs.rows.telling.pick_byte.Given as goal

abbrev pub invariant-loop-clock : goal.invariant-loop-clock
invariant-loop-clock l = l.sum ≡ picked (length (words_at l.words l.place)) (words_at l.words l.place) (marks l.byte) (length l.yielded)
