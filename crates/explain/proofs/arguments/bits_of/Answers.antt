use Rattle.std.proofs.lemmas.Result.{err_from_is_err_and}
use Rattle.explain.proofs.Argued.{not_typed}
use Rattle.explain.proofs.arguments.bits_of.Goals as goal

pub returns-in_err-bit_of : goal.returns-in_err-bit_of
returns-in_err-bit_of c =
    let p = err_from_is_err_and c.from_residual.result c.from_residual.ensures.1 in
    rw (p.1, p.2, c.in_err-bit_of.ensures.0) (not_typed c.args.text.now c.loop-character.character-index c.loop-character-test.true c.in_err-bit_of.ensures.1)
