-- Filling a list from memory: the rules, and the place at which they are broken. Assumes nothing.
use Rattle.std.specs.Prelude.{◌≡◌, ℕ, zero, suc, ◌+◌, ◌<◌, ◌≤◌, ◌⊎◌, Option, MatchOption, Result, MatchResult}
use Rattle.refusal.specs.declared.reason.Refusal.{Refusal}
use Rattle.refusal.specs.declared.reason.Refusal.TheVariants.{UnlawfulList}

-- the rules for the length and the number of faults
pub record Sized (n count : ℕ) : Type 0 where
  pub some : 1 ≤ n
  pub most : n ≤ 4096
  pub few : count ≤ 200

-- all rules, where `Rules i` has those for the fault at place i of the memory, from 0
pub record Follows (n count : ℕ) (Rules : ℕ → Type 0) : Type 0 where
  pub sized : Sized n count
  pub each : (i : ℕ) → i < count → Rules i

-- where they are broken: 0 for the length or the number, else the first fault that breaks one, from 1
abbrev pub Breaks : ℕ → ℕ → (ℕ → Type 0) → ℕ → Type 0
Breaks n count Rules zero = Sized n count → ⊥
Breaks n count Rules (suc i) = Sized n count × (i < count) × (Rules i → ⊥) × ((j : ℕ) → j < i → Rules j)

-- a look at each fault in turn stopped at place i: No holds there, and Yes before
pub record Stops (count : ℕ) (Yes No : ℕ → Type 0) (i : ℕ) : Type 0 where
  pub within : i < count
  pub found : No i
  pub before : (j : ℕ) → j < i → Yes j

-- where it stopped, or that Yes holds of all
abbrev pub FindsBroken : ℕ → (ℕ → Type 0) → (ℕ → Type 0) → Option ℕ → Type 0
FindsBroken count Yes No r = MatchOption r ((i : ℕ) → i < count → Yes i) (λ i. Stops count Yes No i)

-- what it answers, after a look at the length and the number
abbrev pub Checks : ℕ → ℕ → (ℕ → Type 0) → (ℕ → Type 0) → Result (Unit {0}) Refusal → Type 0
Checks n count Yes No r =
    MatchResult r (λ _. Follows n count Yes) (λ e. ((e ≡ UnlawfulList 0) × (Sized n count → ⊥)) ⊎ ((i : ℕ) × (e ≡ UnlawfulList (i + 1)) × Sized n count × Stops count Yes No i))

-- made of it, the rules are kept, and `Is` holds of what was made; refused, the place is the one where they are broken
abbrev pub Makes : {A : Type 0} → ℕ → ℕ → (ℕ → Type 0) → (A → Type 0) → Result A Refusal → Type 0
Makes n count Rules Is r = MatchResult r (λ a. Follows n count Rules × Is a) (λ e. (place : ℕ) × (e ≡ UnlawfulList place) × Breaks n count Rules place)

-- filled, the rules are kept, and `Filled` holds; refused, the place is the one where they are broken, and `Left` holds
abbrev pub Fills : ℕ → ℕ → (ℕ → Type 0) → Type 0 → Type 0 → Result (Unit {0}) Refusal → Type 0
Fills n count Rules Filled Left r =
    MatchResult r (λ _. Follows n count Rules × Filled) (λ e. (place : ℕ) × (e ≡ UnlawfulList place) × Breaks n count Rules place × Left)
