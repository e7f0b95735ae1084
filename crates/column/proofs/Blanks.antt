-- Spaces, written one after another.
use Rattle.std.proofs.Common.{ℕ, ◌+◌, List, [], ◌∷◌, replicate}
use Rattle.std.specs.declared.fmt.Formatter.{Formatter}
use Rattle.std.specs.Fmt.{IsPlainFormatter, HasWritten}
use Rattle.std.proofs.Output.{writes_in_calls_nil, has_written_append, has_written_of_eq}
use Rattle.std.proofs.lemmas.List.{replicate_more}

module _ {W : Type 0} (took : W → List ℕ → W → Type 0) where
  -- where nothing is written yet
  pub no_spaces : (f : Formatter W) → IsPlainFormatter f → HasWritten took f (replicate 0 32) f
  no_spaces f plain = record { wrote = writes_in_calls_nil took f.writer; plain = plain }

  -- and one space after n
  pub one_space_more : (f g h : Formatter W) (n : ℕ) → HasWritten took f (replicate n 32) g → HasWritten took g (32 ∷ []) h → HasWritten took f (replicate (n + 1) 32) h
  one_space_more f g h n p q = has_written_of_eq took f _ _ h (replicate_more n 32) (has_written_append took f _ g _ h p q)
