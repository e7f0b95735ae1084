-- What `all` over a range of numbers tells.
use Rattle.std.proofs.Common.{◌≡◌, ℕ, ◌+◌, ◌-◌, ◌≤◌, ◌<◌, Bool, true, false, ◌↔◌, List, length, get_or, refl, subst, ◌∙◌, arith}
use Rattle.std.specs.Bool.{MatchBool, IsTrue}
use Rattle.std.specs.List.{range_with_len, AllWithin, HoldsAt}
use Rattle.std.proofs.lemmas.List.FromFn.{length-range_with_len, get_or-range_with_len}

-- the numbers from low up to high, of which a test tells Yes or No
module _ (Yes No : ℕ → Type 0) (either : (h : ℕ) → Yes h → No h → ⊥) (low high : ℕ) where
  abbrev numbers : List ℕ
  numbers = range_with_len low (high - low)

  long : length numbers ≡ high - low
  long = length-range_with_len low (high - low)

  place : (h : ℕ) → low ≤ h → h < high → get_or numbers (h - low) 0 ≡ h
  place h above below = get_or-range_with_len low (high - low) (h - low) 0 (omega arith) ∙ omega arith

  pub all_in_range : (r : Bool)
      → MatchBool r (AllWithin Yes numbers 0 (length numbers)) ((k : ℕ) × (k < length numbers) × HoldsAt No numbers k)
      → IsTrue r ↔ ((h : ℕ) → low ≤ h → h < high → Yes h)
  all_in_range true told = (
    λ yes h above below. subst Yes (place h above below) (told (h - low) 0 (omega arith) (omega (arith, long))),
    λ all. refl,
  )
  all_in_range false (k, within, here) = (
    λ yes. absurd (cc),
    λ all. absurd (either (low + k) (all (low + k) (omega arith) (omega (arith, long))) (subst No (get_or-range_with_len low (high - low) k 0 (omega (arith, long))) (here 0))),
  )
