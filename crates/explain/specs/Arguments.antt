-- The two arguments, a feedback number and a response, as texts of ASCII. Assumes nothing.
use Rattle.std.specs.Prelude.{ℕ, ◌+◌, ◌-◌, ◌*◌, ◌<◌, ◌≤◌, Bool, List, map, length, fold, slice_index}
use Rattle.gf2.specs.Responses.{bit}

-- one decimal digit or more, and nothing else
pub record Numeral (text : List ℕ) : Type 0 where
  pub some : 0 < length text
  pub digits : (i : ℕ) → i < length text → (48 ≤ slice_index text i) × (slice_index text i ≤ 57)

-- the number that they write
abbrev pub number : List ℕ → ℕ
number text = fold (λ v c. 10 * v + (c - 48)) 0 text

-- a response as it is typed: a `0` or a `1` for each bit, that of clock 0 first
abbrev pub digit : Bool → ℕ
digit b = 48 + bit b

abbrev pub typed : List Bool → List ℕ
typed bits = map digit bits
