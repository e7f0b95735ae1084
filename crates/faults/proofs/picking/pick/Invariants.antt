use Rattle.std.proofs.Common.{◌≡◌, ℕ, Bool, length}
use Rattle.faults.specs.Picking.{picked, Says}
use Rattle.faults.proofs.picking.pick.Given as goal

abbrev pub invariant-loop-clock : goal.invariant-loop-clock
invariant-loop-clock g l = (w : ℕ → Bool) → Says (length l.fn.words) (goal.F-post g l.test) w → l.sum ≡ picked (length l.fn.words) l.fn.words w (length l.yielded)
