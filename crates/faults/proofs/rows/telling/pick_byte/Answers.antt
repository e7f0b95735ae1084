use Rattle.std.proofs.Common.{◌-◌, ◌*◌, length, take, sym, rules}
use Rattle.std.proofs.lemmas.List.{length_push}
use Rattle.std.proofs.lemmas.Iterator.{YieldsList-from_take}
use Rattle.std.proofs.lemmas.Iterator.Adapters.{YieldsList-from_rev_slice}
use Rattle.std.proofs.lemmas.Iterator.Consumers.{YieldsList-from_enumerate, YieldsList-turn}
use Rattle.faults.specs.Rows.{marks, words_at}
use Rattle.faults.proofs.Errors.{picked_none}
use Rattle.faults.proofs.Words.{picked_one, picked_zero}
use Rattle.faults.proofs.RowLists.{at_eight}
use Rattle.faults.proofs.rows.telling.pick_byte.Goals as goal

pub loop-clock-init : goal.loop-clock-init
loop-clock-init c =
    let eight = words_at c.args.words.now c.args.place in
    sym (picked_none (length eight) eight (marks c.args.byte))

pub loop-clock-preserved-then-bit : goal.loop-clock-preserved-then-bit
loop-clock-preserved-then-bit c =
    let words = c.args.words.now in
    let place = c.args.place in
    let k = length c.loop-clock.yielded in
    let left = take (length words - 8 * place) words in
    let turn = YieldsList-turn (YieldsList-from_enumerate (YieldsList-from_take 8 (YieldsList-from_rev_slice left cc) cc) cc) c.loop-clock.yielded _ c.loop-clock.yielded_by _ _ (c.in-Some.clock, c.in-Some.word) c.in-Some.is c.next.ensures.steps in
    picked_one (words_at words place) (marks c.args.byte) k _ c.loop-clock.sum _ (at_eight words place k _ turn) c.loop-clock.invariant (length_push c.loop-clock.yielded _) (search rules)

pub loop-clock-preserved : goal.loop-clock-preserved
loop-clock-preserved c =
    let words = c.args.words.now in
    let place = c.args.place in
    let k = length c.loop-clock.yielded in
    let left = take (length words - 8 * place) words in
    let turn = YieldsList-turn (YieldsList-from_enumerate (YieldsList-from_take 8 (YieldsList-from_rev_slice left cc) cc) cc) c.loop-clock.yielded _ c.loop-clock.yielded_by _ _ (c.in-Some.clock, c.in-Some.word) c.in-Some.is c.next.ensures.steps in
    picked_zero (words_at words place) (marks c.args.byte) k _ c.loop-clock.sum _ (at_eight words place k _ turn) c.loop-clock.invariant (length_push c.loop-clock.yielded _) (search rules)
