use Rattle.std.proofs.Common.{refl}
use Rattle.apart.proofs.Pairing.{words_none}
use Rattle.apart.proofs.entry_words.words.Goals as goal

pub loop-i-init : goal.loop-i-init
loop-i-init g c = (words_none _ _ 201, refl)
