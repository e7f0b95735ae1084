use Rattle.faults.proofs.RowLists.{Left}
use Rattle.faults.proofs.rows.telling.pick_marked.Given as goal

abbrev pub invariant-loop-place : goal.invariant-loop-place
invariant-loop-place l = Left l.words l.row l.place l.sum
