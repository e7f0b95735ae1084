-- The line that stands for a refusal where answers are printed.
use Rattle.std.specs.Prelude.{ℕ, List, [], ◌∷◌, ◌++◌}
use Rattle.column.specs.Column.{column}
use Rattle.refusal.specs.Table.{Row, table, layer_number}
use Rattle.refusal.specs.declared.reason.Refusal.{Refusal}

-- an `X`, then the number of the layer, the number of the refusal and the two places, each in nine columns
abbrev numbers : Row → List ℕ
numbers row = 88 ∷ (column 9 (layer_number row.layer) ++ (column 9 row.number ++ (column 9 row.places.0 ++ column 9 row.places.1)))

abbrev pub stated : Refusal → List ℕ
stated refusal = numbers (table refusal)

-- the whole line: a line feed ends it
abbrev pub printed : Refusal → List ℕ
printed refusal = stated refusal ++ 10 ∷ []
