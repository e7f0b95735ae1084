use Rattle.std.proofs.Common.{arith}
use Rattle.gf2.proofs.Feedbacks.{some}
use Rattle.gf2.proofs.Named.{residue_laws}
use Rattle.apart.proofs.Pairing.{finds_confused}
use Rattle.apart.proofs.judging.first_confused.Goals as goal

pub returns : goal.returns
returns g c =
    let f = c.args.feedback in
    let m = g.L.FaultList.means c.args.list.now in
    finds_confused f.code (residue_laws f.code (some f)) m c.residues-words.result c.residues-words.ensures _ (omega arith) _ (λ a b t x. x) c.first_pair.result c.first_pair.ensures
