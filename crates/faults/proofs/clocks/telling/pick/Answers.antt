use Rattle.std.proofs.Common.{length, sym, arith}
use Rattle.faults.specs.Clocks.{among}
use Rattle.faults.proofs.Errors.{picked_none}
use Rattle.faults.proofs.ClockLists.{picked_more, picked_whole}
use Rattle.faults.proofs.clocks.telling.pick.Goals as goal

pub loop-clock-init : goal.loop-clock-init
loop-clock-init c = record {
  bound = 0;
  is = sym (picked_none (length c.args.words.now) c.args.words.now (among c.args.clocks.now));
  before = λ k l m. absurd (omega arith);
  after = λ k l m. omega arith;
}

pub loop-clock-preserved : goal.loop-clock-preserved
loop-clock-preserved c =
    rw c.from.ensures
    (picked_more (length c.args.words.now) c.args.words.now c.args.clocks.now c.requires.below c.requires.rising (omega arith)
    c.loop-clock.clock-index c.loop-clock.sum c.loop-clock-test.true c.loop-clock.invariant)

pub returns : goal.returns
returns c =
    picked_whole (length c.args.words.now) c.args.words.now c.args.clocks.now c.requires.below c.requires.rising (omega arith)
    c.loop-clock.clock-index c.loop-clock.sum c.loop-clock-test.false c.loop-clock.invariant
