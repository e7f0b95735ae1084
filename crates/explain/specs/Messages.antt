-- What is said where there is no explanation. CODE and BITS are the two arguments as the program names them.
use Rattle.std.specs.Prelude.{ℕ, List, codes}
use Rattle.explain.specs.declared.error.ExplainError.{ExplainError}
use Rattle.explain.specs.declared.error.ExplainError.TheVariants.{BadCode, BadBits, OutOfMemory}

abbrev pub message : ExplainError → List ℕ
message BadCode = codes "CODE must be a decimal number, as 19 for x^4 + x + 1"
message BadBits = codes "BITS must be zeros and ones, the bit of clock 0 first"
message OutOfMemory = codes "memory allocation failed"
