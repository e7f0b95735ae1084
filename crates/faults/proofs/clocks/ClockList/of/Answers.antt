use Rattle.std.proofs.Common.{length, rules}
use Rattle.faults.specs.Clocks.{KeptAt}
use Rattle.faults.proofs.ClockLists.{kept_all}
use Rattle.faults.proofs.Filling.{follows, breaks}
use Rattle.faults.proofs.clocks.ClockList.of.Goals as goal

pub returns-in_err-check : goal.returns-in_err-check
returns-in_err-check c =
    let rs = c.args.records.now in
    let refused = breaks c.args.n (length rs) (KeptAt c.args.n rs c.args.clocks.now) _ c.in_err-check.ensures (λ i l t. search rules) (λ i l t. search rules) in
    search (rules, refused)

pub invariant_of-result : goal.invariant_of-result
invariant_of-result c =
    let rs = c.args.records.now in
    let cs = c.args.clocks.now in
    let rules_kept = follows c.args.n (length rs) (KeptAt c.args.n rs cs) c.in_ok-check.ensures (λ i l t. search rules) in
    record { sized = rules_kept.sized; kept = kept_all c.args.n rs cs rules_kept.each }
