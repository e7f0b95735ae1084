use Rattle.std.proofs.Common.{string_bytes}
use Rattle.std.proofs.lemmas.Result.{IfOk-weaker}
use Rattle.explain.proofs.Explained.{explains}
use Rattle.explain.proofs.calls.say.Goals as goal

pub returns-in-Ok : goal.returns-in-Ok
returns-in-Ok c =
    let new = c.of.ensures in
    IfOk-weaker c.format.result _ _
    (λ t says text is. (c.args.bits.now, is, explains c.in-Ok.feedback c.of.result c.args.code c.args.bits.now (string_bytes t) c.in-Ok.ensures new.feedback new.length new.quotient new.remainder says))
    c.format.ensures.ok
