-- The choice is exact, said of irreducible polynomials. Assumes nothing.
use Rattle.std.specs.Prelude.{◌≡◌, ℕ, ◌≤◌, ◌⊎◌, Result, MatchResult}
use Rattle.refusal.specs.declared.reason.Refusal.{Refusal}
use Rattle.refusal.specs.declared.reason.Refusal.TheVariants as refused
use Rattle.gf2.specs.Polynomials.{degree, Irreducible}
use Rattle.faults.specs.Meaning.{Faults}
use Rattle.apart.specs.Apart.{KeepsApart}
use Rattle.choice.specs.Counting.{Counts}
use Rattle.choice.specs.Choosing.{Tried}
use Rattle.choice.specs.declared.answer.Choice.{Choice}

-- f is an irreducible polynomial of a degree from low to high that keeps the list apart
pub record Serves (m : Faults) (low high f : ℕ) : Type 0 where
  pub irreducible : Irreducible f
  pub reaches : low ≤ degree f
  pub within : degree f ≤ high
  pub apart : KeepsApart f m

-- the two refusals that say that nothing can be chosen
abbrev pub FindsNone : Refusal → Type 0
FindsNone e = ((a : ℕ) × (b : ℕ) × (e ≡ refused.EqualErrors a b)) ⊎ (e ≡ refused.NoneKeepsApart)

abbrev pub NoneServes : Faults → ℕ → ℕ → Type 0
NoneServes m low high = (f : ℕ) → Serves m low high f → ⊥

-- the smallest that serves, and the only count of those tried
pub record ExactChoice (m : Faults) (low high : ℕ) (c : Choice) : Type 0 where
  pub serves : Serves m low high c.feedback.code
  pub least : (f : ℕ) → Serves m low high f → c.feedback.code ≤ f
  pub only : (n : ℕ) → Counts (Tried low c.feedback.code) n → n ≡ c.tried

-- an exact choice; or one of those two refusals, and none serves
abbrev pub Exact : Faults → ℕ → ℕ → Result Choice Refusal → Type 0
Exact m low high r = MatchResult r (ExactChoice m low high) (λ e. FindsNone e × NoneServes m low high)
