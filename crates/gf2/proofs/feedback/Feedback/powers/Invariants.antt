use Rattle.std.proofs.Common.{◌≡◌, ℕ, ◌^◌, ◌<◌, get_or}
use Rattle.gf2.specs.Polynomials.{residue}
use Rattle.gf2.proofs.feedback.Feedback.powers.Given as goal

abbrev pub invariant-loop-word : goal.invariant-loop-word
invariant-loop-word l =
    (l.power ≡ residue l.self.code (2 ^ l.word-index))
    × ((j : ℕ) → j < l.word-index → get_or l.table j 0 ≡ residue l.self.code (2 ^ j))
