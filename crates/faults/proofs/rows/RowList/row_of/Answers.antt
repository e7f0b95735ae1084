use Rattle.std.proofs.Common.{◌-◌, ◌*◌, [], length, take, drop, ap, inl, inr, arith}
use Rattle.std.proofs.lemmas.List.{length-take}
use Rattle.faults.specs.Meaning.{Fault}
use Rattle.faults.specs.Rows.{marked}
use Rattle.faults.specs.RowLists.{row_list}
use Rattle.faults.proofs.Errors.{wrong_error}
use Rattle.faults.proofs.RowLists.{row_entry_none, row_error_at, row_whole}
use Rattle.faults.proofs.rows.RowList.row_of.Goals as goal
use Rattle.faults.proofs.rows.RowList.row_of.Goals.{then-i-eq0-via-then-i-eq0, then-i-eq0-via-else-i-eq0+then-self-i}

pub returns-then-i-eq0 : goal.returns-then-i-eq0
returns-then-i-eq0 c =
    let s = c.args.self.now in
    let e = ap (λ (x : Fault). x.error) (row_entry_none s.n s.classes.now s.rows.now c.args.i
    (elim c.then-i-eq0.branch [ then-i-eq0-via-then-i-eq0 w ↦ inl w.if-i-eq0.true | then-i-eq0-via-else-i-eq0+then-self-i w ↦ inr w.if-self-i.true ])) in
    record { error = e; wrong = λ j l. wrong_error (row_list s) c.args.i (marked []) e j l; few = omega arith }

pub slice_bounds-result-end-3 : goal.slice_bounds-result-end-3
slice_bounds-result-end-3 c =
    let s = c.args.self.now in
    row_whole s.n (c.args.i - 1) c.row_bytes-stride.result s.classes.now s.rows.now s.follows (omega arith) c.row_bytes-stride.ensures

pub returns : goal.returns
returns c =
    let s = c.args.self.now in
    let k = c.row_bytes-stride.result in
    let start = (c.args.i - 1) * k in
    let bytes = take k (take (length s.rows.now - start) (drop start s.rows.now)) in
    let e = row_error_at s.n s.classes.now s.rows.now c.args.i k (omega arith) (omega arith) c.row_bytes-stride.ensures in
    record { error = e; wrong = λ j l. wrong_error (row_list s) c.args.i (marked bytes) e j l; few = omega (arith, length-take k (take (length s.rows.now - start) (drop start s.rows.now))) }
