use Rattle.std.proofs.Common.{◌≡◌, ℕ, ◌-◌, ◌^◌, ◌<◌, ◌≤◌, min, get_or, take}
use Rattle.explain.specs.Arguments.{number}
use Rattle.explain.proofs.arguments.code_of.Given as goal

abbrev pub invariant-loop-character : goal.invariant-loop-character
invariant-loop-character l =
    ((i : ℕ) → i < l.character-index → (48 ≤ get_or l.text i 0) × (get_or l.text i 0 ≤ 57))
    × (l.code ≡ min (number (take l.character-index l.text)) (2 ^ 64 - 1))
