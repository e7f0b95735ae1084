use Rattle.std.proofs.Common.{◌∙◌, rules, arith}
use Rattle.faults.specs.Meaning.{wrong}
use Rattle.faults.proofs.Errors.{combined_take}
use Rattle.faults.proofs.list.FaultList.combine.Goals as goal

pub returns : goal.returns
returns g c =
    let m = g.Self.FaultList.means c.args.self.now in
    c.pick.ensures (wrong m c.args.i) (λ k b l p. search rules)
    ∙ combined_take m c.args.i c.args.table.now c.in-Some.words.now c.clocks.ensures.lawful (search rules) (omega (arith, c.in-Some.ensures.lookup.0.1))
