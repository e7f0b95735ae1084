use Rattle.std.proofs.Common.{◌≡◌, ℕ, ◌+◌, ◌-◌, List, take, drop, ap, ◌∙◌, subst, arith}
use Rattle.std.specs.List.Sorted.{IsStrictlyIncreasing}
use Rattle.gf2.specs.Responses.{response}
use Rattle.faults.specs.Meaning.{entry}
use Rattle.faults.specs.Clocks.{among, Below}
use Rattle.faults.specs.ClockLists.{clock_list}
use Rattle.faults.proofs.ClockLists.{among_wrong}
use Rattle.faults.proofs.clocks.ClockList.clocks_of.Goals as goal

pub returns : goal.returns
returns c =
    let s = c.args.self.now in
    let span = c.record_of.result.clocks in
    let rest = drop span.start s.clocks.now in
    let whole : span.len ≡ span.start + span.len - span.start = omega arith in
    let cs : List ℕ = take (span.start + span.len - span.start) rest in
    let below : Below s.n cs = subst (λ x. Below s.n (take x rest)) whole c.record_of.ensures.kept.below in
    let error : (entry (clock_list s) c.args.i).error ≡ response s.n (among cs) = c.record_of.ensures.error ∙ ap (λ x. response s.n (among (take x rest))) whole in
    record {
      error = error;
      wrong = among_wrong (clock_list s) c.args.i cs below error;
      below = below;
      rising = subst (λ x. IsStrictlyIncreasing (take x rest)) whole c.record_of.ensures.kept.rising;
    }
