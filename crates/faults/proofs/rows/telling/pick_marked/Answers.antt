use Rattle.std.proofs.Common.{◌+◌, sym, subst, rules}
use Rattle.faults.specs.Rows.{words_at}
use Rattle.faults.proofs.RowLists.{length-words_at, words_cut, Left, left_more, left_zero, left_end}
use Rattle.faults.proofs.rows.telling.pick_marked.Goals as goal
use Rattle.faults.proofs.rows.telling.pick_marked.Goals.{then-byte-ne0, else-byte-ne0}

pub loop-place-preserved : goal.loop-place-preserved
loop-place-preserved c =
    let row = c.args.row.now in
    let words = c.args.words.now in
    let place = c.loop-place.place in
    let sum = c.loop-place.sum in
    let within = c.loop-place-test.true in
    elim c.if-byte-ne0.branch [
      | then-byte-ne0 v ↦
          subst (Left words row (place + 1)) (sym v.sum-is)
          (left_more words row place sum within (words_at words place) v.pick_byte-sum.result (words_cut words place) (length-words_at words place) v.pick_byte-sum.ensures c.loop-place.invariant)
      | else-byte-ne0 v ↦ subst (Left words row (place + 1)) (sym v.sum-is) (left_zero words row place sum within v.if-byte-ne0.false c.loop-place.invariant)
    ]

pub returns : goal.returns
returns c = left_end c.args.words.now c.args.row.now c.loop-place.place c.loop-place.sum (search rules) c.loop-place.invariant
