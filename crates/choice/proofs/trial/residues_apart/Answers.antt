use Rattle.std.proofs.Common.{◌≡◌, ℕ, arith}
use Rattle.gf2.proofs.Feedbacks.{some}
use Rattle.gf2.proofs.Named.{residue_laws}
use Rattle.faults.specs.Meaning.{combined}
use Rattle.faults.proofs.Errors.{combined_residue}
use Rattle.apart.specs.Residues.{residues}
use Rattle.choice.proofs.Steps.{told_apart}
use Rattle.choice.proofs.trial.residues_apart.Goals as goal

pub returns : goal.returns
returns g c =
    let m = g.L.FaultList.means c.args.list.now in
    let f = c.args.feedback in
    let table = c.powers.new.table in
    let word : (i : ℕ) → combined m i table ≡ residues f.code m i = λ i. combined_residue f.code m i table c.requires.lawful c.powers.ensures (omega arith) in
    told_apart f.code (residue_laws f.code (some f)) m table word c.words_apart.result c.words_apart.ensures
