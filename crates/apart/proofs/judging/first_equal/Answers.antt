use Rattle.std.proofs.Common.{arith}
use Rattle.apart.proofs.Pairing.{finds_equal}
use Rattle.apart.proofs.judging.first_equal.Goals as goal

pub returns : goal.returns
returns g c =
    finds_equal (g.L.FaultList.means c.args.list.now) c.args.table.now c.words-words.result c.words-words.ensures _ (omega arith) _ (λ a b t x. x) c.first_pair.result c.first_pair.ensures
