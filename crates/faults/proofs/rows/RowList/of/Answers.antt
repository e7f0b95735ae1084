use Rattle.std.proofs.Common.{length, rules}
use Rattle.faults.specs.Rows.{RowKept}
use Rattle.faults.proofs.Filling.{follows, breaks}
use Rattle.faults.proofs.rows.RowList.of.Goals as goal

pub returns-in_err-check : goal.returns-in_err-check
returns-in_err-check c =
    let cs = c.args.classes.now in
    let refused = breaks c.args.n (length cs) (RowKept c.args.n cs c.args.rows.now) _ c.in_err-check.ensures (λ i l t. search rules) (λ i l t. search rules) in
    search (rules, refused)

pub invariant_of-result : goal.invariant_of-result
invariant_of-result c =
    let cs = c.args.classes.now in
    record { follows = follows c.args.n (length cs) (RowKept c.args.n cs c.args.rows.now) c.in_ok-check.ensures (λ i l t. search rules) }
