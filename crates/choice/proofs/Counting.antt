-- How many numbers have a property: none, the same, one more; and there is one answer.
use Rattle.std.proofs.Common.{◌≡◌, ℕ, zero, suc, ◌+◌, ◌<◌, ◌≤◌, ◌⊎◌, List, [], ◌∷◌, ◌++◌, length, get_or, sym, refl, ap, ◌∙◌, subst, inl, inr, arith}
use native.Mathlib.Decide.{dec_lt}
use Rattle.std.proofs.lemmas.Bool.{cases_order}
use Rattle.std.proofs.lemmas.List.{length_push, get_or_push, get_or_append_left}
use Rattle.choice.specs.Counting.{Enumerates, Counts}

pub counts_none : (P : ℕ → Type 0) → ((g : ℕ) → P g → ⊥) → Counts P 0
counts_none P none = ([], record { rising = λ i j h l. absurd (omega arith); each = λ i l. absurd (omega arith); every = λ g p. absurd (none g p) }, refl)

pub counts_same : (P Q : ℕ → Type 0) (n : ℕ) → ((g : ℕ) → P g → Q g) → ((g : ℕ) → Q g → P g) → Counts P n → Counts Q n
counts_same P Q n to from (fs, l, e) =
    (fs, record { rising = l.rising; each = λ i h. to (get_or fs i 0) (l.each i h); every = λ g q. l.every g (from g q) }, e)

-- one number more, above all the others
pub counts_more : (P Q : ℕ → Type 0) (n c : ℕ) → ((g : ℕ) → P g → g < c) → Q c → ((g : ℕ) → P g → Q g) → ((g : ℕ) → Q g → P g ⊎ (g ≡ c))
    → Counts P n → Counts Q (n + 1)
counts_more P Q n c below new to from (fs, l, e) =
    (gs, record { rising = λ i j h k. rises i j h (dec_lt j (length fs)) k; each = λ i k. each i (dec_lt i (length fs)) k; every = λ g q. every g (from g q) }, long ∙ ap (λ x. x + 1) e)
  where
    gs : List ℕ
    gs = fs ++ c ∷ []

    long : length gs ≡ length fs + 1
    long = length_push fs c

    old : (i : ℕ) → i < length fs → get_or gs i 0 ≡ get_or fs i 0
    old i h = get_or_append_left fs (c ∷ []) 0 i h

    last : (i : ℕ) → length fs ≤ i → i < length gs → get_or gs i 0 ≡ c
    last i h k = get_or_push fs c 0 i (omega (arith, long))

    rises : (i j : ℕ) → i < j → Dec (j < length fs) → j < length gs → get_or gs i 0 < get_or gs j 0
    rises i j h (yes d) k = rw (old i (omega arith), old j d) (l.rising i j h d)
    rises i j h (no d) k =
        let s : i < length fs = omega (arith, long) in
        rw (old i s, last j (omega arith) k) (below (get_or fs i 0) (l.each i s))

    each : (i : ℕ) → Dec (i < length fs) → i < length gs → Q (get_or gs i 0)
    each i (yes d) k = subst Q (sym (old i d)) (to (get_or fs i 0) (l.each i d))
    each i (no d) k = subst Q (sym (last i (omega arith) k)) new

    every : (g : ℕ) → P g ⊎ (g ≡ c) → (i : ℕ) × (i < length gs) × (get_or gs i 0 ≡ g)
    every g (inl p) = let x = l.every g p in (x.0, omega (arith, long, x.1), old x.0 x.1 ∙ x.2)
    every g (inr q) = (length fs, omega (arith, long), last (length fs) (omega arith) (omega (arith, long)) ∙ sym q)

-- ---- the count is unique

module _ (P : ℕ → Type 0) (fs gs : List ℕ) (a : Enumerates P fs) (b : Enumerates P gs) where
  -- what stands at i in one list stands at i or later in the other
  later : (i j : ℕ) → i < length fs → j < length gs → get_or gs j 0 ≡ get_or fs i 0 → i ≤ j
  later zero j h l e = omega arith
  later (suc i) j h l e =
      let x = b.every (get_or fs i 0) (a.each i (omega arith)) in
      let low = later i x.0 (omega arith) x.1 x.2 in
      let up : get_or fs i 0 < get_or fs (suc i) 0 = a.rising i (suc i) (omega arith) h in
      by x.0 x.1 x.2 low up (cases_order x.0 j)
    where
      by : (k : ℕ) → k < length gs → get_or gs k 0 ≡ get_or fs i 0 → i ≤ k → get_or fs i 0 < get_or fs (suc i) 0 → (k ≡ j) ⊎ ((k < j) ⊎ (j < k)) → suc i ≤ j
      by k s q low up (inl m) = let z : get_or gs k 0 ≡ get_or gs j 0 = ap (λ t. get_or gs t 0) m in absurd (omega arith)
      by k s q low up (inr (inl m)) = omega arith
      by k s q low up (inr (inr m)) = absurd (omega (arith, b.rising j k m s))

  no_longer : length fs ≤ length gs
  no_longer = by (length fs) refl
    where
      by : (n : ℕ) → length fs ≡ n → n ≤ length gs
      by zero e = omega arith
      by (suc n) e =
          let x = b.every (get_or fs n 0) (a.each n (omega arith)) in
          omega (arith, later n x.0 (omega arith) x.1 x.2, x.1)

pub counts_unique : (P : ℕ → Type 0) (n k : ℕ) → Counts P n → Counts P k → n ≡ k
counts_unique P n k (fs, a, e) (gs, b, d) = omega (arith, no_longer P fs gs a b, no_longer P gs fs b a)
