use Rattle.choice.proofs.Steps.{seen_none}
use Rattle.choice.proofs.trial.words_apart.Goals as goal

pub loop-i-init : goal.loop-i-init
loop-i-init g c = seen_none _ _ 201
