use Rattle.std.specs.Fmt.{IsPlainFormatter}
use denote.Text.{Utf8}
use denote.Shadow.{shadow}
use Rattle.explain.specs.Spelling.{exponents, spelled}
use Rattle.explain.proofs.Spelled.{IsUnderway}
use Rattle.explain.proofs.spelling.PolynomialDisplay.fmt.Given as goal

-- the powers below the exponent are still to be written
abbrev pub invariant-loop-exponent : goal.invariant-loop-exponent
invariant-loop-exponent g l =
    shadow (Utf8 l.separator)
    × (IsPlainFormatter l.initial.f → IsUnderway g.W.Write.write_str_gives l.initial.f l.f l.separator (exponents l.exponent l.self.code) (spelled l.self.code))
