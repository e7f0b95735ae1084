use Rattle.std.proofs.Common.{◌≡◌, ℕ, ◌-◌, rules, refl, tests, arith}
use Rattle.std.proofs.lemmas.Iterator.{cases_from_all, YieldsList-from_range}
use Rattle.gf2.proofs.Ranges.{all_in_range}
use Rattle.faults.specs.Meaning.{wrong}
use Rattle.apart.proofs.Pairing.{same_error, same_wrong}
use Rattle.apart.proofs.judging.same_errors.Goals as goal

pub returns : goal.returns
returns g c =
    let m = g.L.FaultList.means c.args.list.now in
    let a = c.args.a in
    let b = c.args.b in
    let lawful = c.clocks.ensures.lawful in
    let same : ℕ → Type 0 = λ j. wrong m a j ≡ wrong m b j in
    let told = cases_from_all _ _ c.all.result same (λ j. same j → ⊥) c.all.ensures.ran (YieldsList-from_range 0 c.clocks.result (m.clocks - 0) refl (omega arith)) (λ x q k. search (rules, tests)) (λ x q k. search (rules, tests)) in
    let all = all_in_range same (λ j. same j → ⊥) (λ j s n. n s) 0 m.clocks c.all.result told in
    ((λ t. same_error m a b m.clocks lawful (omega arith) (λ j l. all.0 t j (omega arith) l)), λ e. all.1 (λ j z l. same_wrong m a b j e))
