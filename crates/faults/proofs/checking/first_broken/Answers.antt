use Rattle.std.proofs.Common.{true, false, rules, tests}
use Rattle.std.proofs.lemmas.Iterator.{first_from_Range, serves_from_Range}
use Rattle.faults.proofs.Filling.{finds_broken}
use Rattle.faults.proofs.checking.first_broken.Goals as goal

pub find-requires-clause-callable : goal.find-requires-clause-callable
find-requires-clause-callable g c = serves_from_Range (λ x q k. search (rules, tests)) (λ x low high. search (rules, c.requires))

pub returns : goal.returns
returns g c =
    let P = goal.F-post g c.args.keeps in
    finds_broken c.args.count _ (λ i. P i true) (λ i. P i false)
    (first_from_Range _ _ _ _ (λ i. P i false) (λ i. P i true) c.find.ensures.ran (λ x q k. search (rules, tests)) (λ x q k. search (rules, tests)))
