use Rattle.std.proofs.Common.{◌∙◌, arith}
use Rattle.faults.proofs.Errors.{combined_residue}
use Rattle.apart.proofs.entry_words.residues_by.Goals as goal

pub returns : goal.returns
returns g c i =
    c.words.ensures i ∙ combined_residue c.args.feedback.code (g.L.FaultList.means c.args.list.now) i c.powers.new.table c.requires.lawful c.powers.ensures (omega arith)
