-- What a fault list means: its length n, and the class and the error of each fault. Assumes nothing.
use Rattle.std.specs.Prelude.{ℕ, ◌-◌, ◌^◌, ◌<◌, ◌≤◌, Bool, false, if◌then◌else◌, List, [], ◌∷◌, length, ◌==◌, nat_lt, slice_index_or}
use Rattle.gf2.specs.Polynomials.{coefficient}
use Rattle.gf2.specs.Tables.{combination}

-- the error is a polynomial: the response of n bits that is 1 at the wrong clocks
pub record Fault : Type 0 where
  pub class : ℕ
  pub error : ℕ

-- n clocks, and the faults from fault 1 on
pub record Faults : Type 0 where
  pub clocks : ℕ
  pub faults : List Fault

-- a list before it is filled
abbrev pub empty : Faults
empty = record { clocks = 1; faults = [] }

-- the good board is wrong nowhere
abbrev pub good : Fault
good = record { class = 0; error = 0 }

-- entry 0 is the good board, and entry i is fault i
abbrev pub entries : Faults → List Fault
entries m = good ∷ m.faults

-- (past the last entry the good board stands again, so that every number has an answer)
abbrev pub entry : Faults → ℕ → Fault
entry m i = slice_index_or (entries m) i good

-- whether entry i is wrong at clock j: whether its error has x^(n-1-j). From clock n on it is not.
abbrev pub wrong : Faults → ℕ → ℕ → Bool
wrong m i j = if nat_lt j m.clocks then coefficient (entry m i).error (m.clocks - 1 - j) == 1 else false

-- what the error of entry i picks from a table, and 0 where the table has fewer than n numbers
abbrev pub combined : Faults → ℕ → List ℕ → ℕ
combined m i table = if nat_lt (length table) m.clocks then 0 else combination table (entry m i).error

-- the rules that every list keeps
pub record Lawful (m : Faults) : Type 0 where
  pub some : 1 ≤ m.clocks
  pub most : m.clocks ≤ 4096
  pub few : length m.faults ≤ 200
  pub class : (i : ℕ) → (entry m i).class ≤ 99
  pub error : (i : ℕ) → (entry m i).error < 2 ^ m.clocks
