-- The choice of a feedback. Assumes nothing.
use Rattle.std.specs.Prelude.{◌≡◌, ℕ, ◌<◌, ◌≤◌, ◌⊎◌, List, length, Result, MatchResult, slice_index}
use Rattle.refusal.specs.declared.reason.Refusal.{Refusal}
use Rattle.refusal.specs.declared.reason.Refusal.TheVariants as refused
use Rattle.gf2.specs.Polynomials.{degree}
use Rattle.gf2.specs.Feedbacks.{IsFeedback}
use Rattle.faults.specs.Meaning.{Faults, entries}
use Rattle.apart.specs.Apart.{KeepsApart, EqualErrors, Distinct, First}
use Rattle.apart.specs.Residues.{residues}
use Rattle.choice.specs.Counting.{Counts}
use Rattle.choice.specs.declared.answer.Choice.{Choice}

-- f is a feedback of a degree from low to high that keeps the list apart
pub record Fits (m : Faults) (low high f : ℕ) : Type 0 where
  pub feedback : IsFeedback f
  pub reaches : low ≤ degree f
  pub within : degree f ≤ high
  pub apart : KeepsApart f m

abbrev pub NoneFits : Faults → ℕ → ℕ → Type 0
NoneFits m low high = (f : ℕ) → Fits m low high f → ⊥

-- f fits, and has the smallest code of those that do
pub record Chosen (m : Faults) (low high f : ℕ) : Type 0 where
  pub fits : Fits m low high f
  pub least : (g : ℕ) → Fits m low high g → f ≤ g

-- a feedback of degree at least low whose code is not above f
pub record Tried (low f g : ℕ) : Type 0 where
  pub feedback : IsFeedback g
  pub reaches : low ≤ degree g
  pub upto : g ≤ f

-- ---- the words

abbrev pub Room : Faults → List ℕ → Type 0
Room m words = length (entries m) ≤ length words

-- the words past the entries are as they were
abbrev pub PastKept : Faults → List ℕ → List ℕ → Type 0
PastKept m before after = (i : ℕ) → length (entries m) ≤ i → slice_index after i ≡ slice_index before i

-- word i is v i, for each entry i, and the words past the entries are as they were
pub record Written (m : Faults) (v : ℕ → ℕ) (before after : List ℕ) : Type 0 where
  pub each : (i : ℕ) → i < length (entries m) → slice_index after i ≡ v i
  pub past : PastKept m before after

-- ---- what is answered, and what the words then hold

pub record Degrees (low high : ℕ) : Type 0 where
  pub some : 1 ≤ low
  pub order : low ≤ high
  pub most : high ≤ 24

-- the feedback chosen, and the number of those tried
pub record Picks (m : Faults) (low high : ℕ) (c : Choice) : Type 0 where
  pub chosen : Chosen m low high c.feedback.code
  pub tried : Counts (Tried low c.feedback.code) c.tried

-- both, and the residues in the words
pub record Found (m : Faults) (low high : ℕ) (before after : List ℕ) (c : Choice) : Type 0 where
  pub picks : Picks m low high c
  pub words : Written m (residues c.feedback.code m) before after

-- an accepted choice: no refusal's condition holds
pub record Accepted (m : Faults) (low high : ℕ) (before after : List ℕ) (c : Choice) : Type 0 where
  pub degrees : Degrees low high
  pub room : Room m before
  pub distinct : Distinct m
  pub found : Found m low high before after c

-- The four refusals. Each comes when its condition holds and that of none before it does.
abbrev pub Declined : Faults → ℕ → ℕ → List ℕ → List ℕ → Refusal → Type 0
Declined m low high before after e =
    ((e ≡ refused.DegreesOutOfRange) × (Degrees low high → ⊥) × (after ≡ before))
    ⊎ (((e ≡ refused.TooFewWords) × Degrees low high × (Room m before → ⊥) × (after ≡ before))
    ⊎ (((a : ℕ) × (b : ℕ) × (e ≡ refused.EqualErrors a b) × Degrees low high × Room m before × First (EqualErrors m) a b × (after ≡ before))
    ⊎ ((e ≡ refused.NoneKeepsApart) × Degrees low high × Room m before × Distinct m × NoneFits m low high × Written m (λ i. 0) before after)))

abbrev pub Chooses : Faults → ℕ → ℕ → List ℕ → List ℕ → Result Choice Refusal → Type 0
Chooses m low high before after r = MatchResult r (Accepted m low high before after) (Declined m low high before after)
