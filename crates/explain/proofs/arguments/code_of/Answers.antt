use Rattle.explain.proofs.Argued.{all_read}
use Rattle.explain.proofs.arguments.code_of.Goals as goal

pub returns : goal.returns
returns c = all_read c.args.text.now c.loop-character.character-index c.loop-character.code c.if-is_empty.ensures c.loop-character-test.false c.loop-character.invariant.0 c.loop-character.invariant.1
