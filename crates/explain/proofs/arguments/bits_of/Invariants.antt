use Rattle.std.proofs.Common.{◌≡◌, take, vec_items}
use Rattle.explain.specs.Arguments.{typed}
use Rattle.explain.proofs.arguments.bits_of.Given as goal

abbrev pub invariant-loop-character : goal.invariant-loop-character
invariant-loop-character l = take l.character-index l.text ≡ typed (vec_items l.bits)
