use Rattle.choice.specs.Trials.{Trial}
use Rattle.choice.proofs.trial.words_apart.Given as goal

abbrev pub invariant-loop-i : goal.invariant-loop-i
invariant-loop-i g l = Trial (g.L.FaultList.means l.list) l.table l.words l.i
