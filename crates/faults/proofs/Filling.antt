-- What a look at each fault says of the rules.
use Rattle.std.proofs.Common.{◌≤◌, Option, Some, None, MatchOption, ◌≡◌, ℕ, suc, ◌+◌, ◌<◌, ◌⊎◌, inl, inr, ◌∙◌, ap, add-one, arith}
use Rattle.refusal.specs.declared.reason.Refusal.{Refusal}
use Rattle.refusal.specs.declared.reason.Refusal.TheVariants.{UnlawfulList}
use Rattle.faults.specs.Filling.{Sized, Follows, Breaks, Stops, FindsBroken}

-- a look from 0 on
pub finds_broken : (count : ℕ) (r : Option ℕ) (Yes No : ℕ → Type 0)
    → MatchOption r ((k : ℕ) → 0 ≤ k → k < count → Yes k) (λ i. (0 ≤ i) × (i < count) × No i × ((k : ℕ) → 0 ≤ k → k < i → Yes k)) → FindsBroken count Yes No r
finds_broken count None Yes No h = λ i l. h i (omega arith) l
finds_broken count (Some i) Yes No h = record { within = h.1; found = h.2; before = λ j l. h.3 j (omega arith) l }

module _ (n count : ℕ) (Rules : ℕ → Type 0) where
  pub follows : {Yes : ℕ → Type 0} → Follows n count Yes → ((i : ℕ) → i < count → Yes i → Rules i) → Follows n count Rules
  follows h kept = record { sized = h.sized; each = λ i l. kept i l (h.each i l) }

  pub breaks : {Yes No : ℕ → Type 0} (e : Refusal) → ((e ≡ UnlawfulList 0) × (Sized n count → ⊥)) ⊎ ((i : ℕ) × (e ≡ UnlawfulList (i + 1)) × Sized n count × Stops count Yes No i)
      → ((i : ℕ) → i < count → Yes i → Rules i) → ((i : ℕ) → i < count → No i → Rules i → ⊥) → (place : ℕ) × (e ≡ UnlawfulList place) × Breaks n count Rules place
  breaks e (inl h) kept broken = (0, h.0, h.1)
  breaks e (inr h) kept broken =
      let s = h.3 in
      (suc h.0, h.1 ∙ ap UnlawfulList (add-one h.0), (h.2, s.within, broken h.0 s.within s.found, λ j l. kept j (omega arith) (s.before j l)))
