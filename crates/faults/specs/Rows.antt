-- A list that holds n bits a fault in whole bytes, clock 0 in the highest bit of the first byte. Assumes nothing.
use Rattle.std.specs.Prelude.{ℕ, ◌+◌, ◌-◌, ◌*◌, ◌/◌, ◌%◌, ◌≤◌, Bool, List, map, length, min, take, drop, ◌==◌, slice_index}
use Rattle.std.specs.List.{range_with_len}
use Rattle.gf2.specs.Polynomials.{coefficient}
use Rattle.gf2.specs.Responses.{response}
use Rattle.faults.specs.Meaning.{Fault, Faults}

-- the bytes of a row
abbrev pub stride : ℕ → ℕ
stride n = (n + 7) / 8

-- the row at place i, from 0: they stand one after another
abbrev pub row : ℕ → List ℕ → ℕ → List ℕ
row n rows i = take (stride n) (drop (i * stride n) rows)

-- whether a row has a 1 at clock j, which past its last byte it has not
abbrev pub marked : List ℕ → ℕ → Bool
marked bytes j = coefficient (slice_index bytes (j / 8)) (7 - j % 8) == 1

-- where a byte has a 1, from its highest bit
abbrev pub marks : ℕ → ℕ → Bool
marks byte k = coefficient byte (7 - k) == 1

-- the words of the byte at a place: eight, or as many as are left, and the last ones for the first byte
abbrev pub words_at : List ℕ → ℕ → List ℕ
words_at words place = take (min 8 (length words - 8 * place)) (drop (length words - 8 * (place + 1)) words)

-- the rules for the fault at place i
pub record RowKept (n : ℕ) (classes rows : List ℕ) (i : ℕ) : Type 0 where
  pub class : slice_index classes i ≤ 99
  pub within : (i + 1) * stride n ≤ length rows

abbrev pub rowed : ℕ → List ℕ → List ℕ → ℕ → Fault
rowed n classes rows i = record { class = slice_index classes i; error = response n (marked (row n rows i)) }

-- what the memory means: a fault for each class, and its row. The error has n bits: what a row has past clock n - 1 does not count.
abbrev pub by_rows : ℕ → List ℕ → List ℕ → Faults
by_rows n classes rows = record { clocks = n; faults = map (rowed n classes rows) (range_with_len 0 (length classes)) }
