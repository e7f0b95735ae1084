-- Numbers in columns, as sheets, reports and refusal lines have them.
use Rattle.std.specs.Prelude.{ℕ, ◌-◌, List, ◌++◌, length, replicate, decimal}

-- v in decimal, right-justified in w columns: spaces, then the digits.
-- A number of more than w digits takes as many columns as it has digits.
unfoldable pub column : ℕ → ℕ → List ℕ
column w v = replicate (w - length (decimal v)) 32 ++ decimal v
