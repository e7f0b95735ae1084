-- A list that holds the wrong clocks of each fault as rising numbers. Assumes nothing.
use Rattle.std.specs.Prelude.{ℕ, ◌+◌, ◌<◌, ◌≤◌, Bool, List, map, length, take, drop, ◌==◌, slice_index, slice_index_or}
use Rattle.std.specs.List.{list_any}
use Rattle.std.specs.List.Sorted.{IsStrictlyIncreasing}
use Rattle.gf2.specs.Responses.{response}
use Rattle.faults.specs.Meaning.{Fault, Faults}
use Rattle.faults.specs.declared.fault_record.Span.{Span}
use Rattle.faults.specs.declared.fault_record.FaultRecord.{FaultRecord}

-- what a place past the last record reads
abbrev pub blank : FaultRecord
blank = record { class = 0; clocks = record { start = 0; len = 0 }; name = record { start = 0; len = 0 } }

-- the part of a memory that a span names
abbrev pub part : List ℕ → Span → List ℕ
part memory s = take s.len (drop s.start memory)

-- whether j is one of the clocks
abbrev pub among : List ℕ → ℕ → Bool
among cs j = list_any (λ c. c == j) cs

abbrev pub Below : ℕ → List ℕ → Type 0
Below n cs = (k : ℕ) → k < length cs → slice_index cs k < n

-- the rules for one fault
pub record Kept (n : ℕ) (clocks : List ℕ) (r : FaultRecord) : Type 0 where
  pub class : r.class ≤ 99
  pub within : r.clocks.start + r.clocks.len ≤ length clocks
  pub below : Below n (part clocks r.clocks)
  pub rising : IsStrictlyIncreasing (part clocks r.clocks)

-- for the fault at place i, from 0
abbrev pub KeptAt : ℕ → List FaultRecord → List ℕ → ℕ → Type 0
KeptAt n records clocks i = Kept n clocks (slice_index_or records i blank)

abbrev pub recorded : ℕ → List ℕ → FaultRecord → Fault
recorded n clocks r = record { class = r.class; error = response n (among (part clocks r.clocks)) }

-- what the memory means
abbrev pub by_clocks : ℕ → List FaultRecord → List ℕ → Faults
by_clocks n records clocks = record { clocks = n; faults = map (recorded n clocks) records }
