use Rattle.std.proofs.Common.{◌≡◌, length}
use Rattle.apart.specs.Residues.{WordsUpTo}
use Rattle.apart.proofs.entry_words.words.Given as goal

abbrev pub invariant-loop-i : goal.invariant-loop-i
invariant-loop-i g l = WordsUpTo (g.L.FaultList.means l.list) l.table l.words l.i × (length l.words ≡ 201)
