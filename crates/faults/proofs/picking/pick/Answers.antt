use Rattle.std.proofs.Common.{true, false, length, sym, arith}
use Rattle.std.proofs.lemmas.List.{length_push}
use Rattle.std.proofs.lemmas.Iterator.Adapters.{YieldsList-from_rev_slice}
use Rattle.std.proofs.lemmas.Iterator.Consumers.{YieldsList-from_enumerate, YieldsList-turn}
use Rattle.faults.proofs.Errors.{picked_none}
use Rattle.faults.proofs.Words.{at, picked_one, picked_zero}
use Rattle.faults.proofs.picking.pick.Goals as goal

pub loop-clock-init : goal.loop-clock-init
loop-clock-init g c = λ w s. sym (picked_none (length c.args.words.now) c.args.words.now w)

pub loop-clock-preserved-then-test : goal.loop-clock-preserved-then-test
loop-clock-preserved-then-test g c = λ w s.
    let words = c.args.words.now in
    let k = length c.loop-clock.yielded in
    let turn = YieldsList-turn (YieldsList-from_enumerate (YieldsList-from_rev_slice words cc) cc) c.loop-clock.yielded _ c.loop-clock.yielded_by _ _ (c.in-Some.clock, c.in-Some.word) c.in-Some.is c.next.ensures.steps in
    let a = at words k _ turn.0 turn.1 in
    picked_one words w k _ c.loop-clock.sum _ a (c.loop-clock.invariant w s) (length_push c.loop-clock.yielded _) (sym (s c.in-Some.clock true (omega (arith, a.within, a.place)) c.if-test.ensures))

pub loop-clock-preserved : goal.loop-clock-preserved
loop-clock-preserved g c = λ w s.
    let words = c.args.words.now in
    let k = length c.loop-clock.yielded in
    let turn = YieldsList-turn (YieldsList-from_enumerate (YieldsList-from_rev_slice words cc) cc) c.loop-clock.yielded _ c.loop-clock.yielded_by _ _ (c.in-Some.clock, c.in-Some.word) c.in-Some.is c.next.ensures.steps in
    let a = at words k _ turn.0 turn.1 in
    picked_zero words w k _ c.loop-clock.sum _ a (c.loop-clock.invariant w s) (length_push c.loop-clock.yielded _) (sym (s c.in-Some.clock false (omega (arith, a.within, a.place)) c.if-test.ensures))
