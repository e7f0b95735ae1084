-- Pairs of entries: which pair comes first, and what equal words say.
use Rattle.std.proofs.Common.{◌+◌, slice_index, replicate, set, get_or, get_or-set_other, get_or-set_same, below_more, cond, ltb, refl, ◌≢◌, ◌⊎◌, inl, inr, Decides, ◌≡◌, ℕ, ◌<◌, ◌≤◌, Bool, true, false, List, length, Some, None, Option, sym, ap, ◌∙◌, subst, arith, MatchOption}
use lib.Bits.{bit_xor, xor_self}
use native.Mathlib.Decide.{dec_lt}
use Rattle.std.proofs.lemmas.Bool.{cases_order}
use Rattle.gf2.specs.Polynomials.{residue}
use Rattle.gf2.specs.Laws.{ResidueLaws}
use Rattle.gf2.specs.Tables.{combination}
use Rattle.gf2.proofs.Tables.{combination_zero}
use Rattle.std.proofs.lemmas.List.{get_or_past, get_or-replicate, length-replicate}
use Rattle.gf2.proofs.Times.{times_zero}
use Rattle.gf2.proofs.Responses.{response_same}
use Rattle.gf2.proofs.Decided.{denied}
use Rattle.faults.specs.Meaning.{Faults, Lawful, good, entries, entry, wrong, combined}
use Rattle.faults.proofs.Errors.{error_of}
use Rattle.apart.specs.Apart.{Differ, Confuses, EqualErrors, Distinct, First}
use Rattle.apart.specs.Pairs.{Earlier, FirstToPass}
use Rattle.apart.specs.Residues.{Words, WordsUpTo, Residues, Alike, SameError}
use Rattle.apart.specs.Verdicts.{FindsEqual, FindsConfused}
use Rattle.apart.specs.declared.answers.Pair.{Pair}

-- wrong at the same clocks
pub same_error : (m : Faults) (a b n : ℕ) → Lawful m → m.clocks ≤ n → ((j : ℕ) → j < n → wrong m a j ≡ wrong m b j) → (entry m a).error ≡ (entry m b).error
same_error m a b n s l h =
    sym (error_of m a s) ∙ response_same m.clocks (wrong m a) (wrong m b) (λ j k. h j (omega arith)) ∙ error_of m b s

pub same_wrong : (m : Faults) (a b j : ℕ) → (entry m a).error ≡ (entry m b).error → wrong m a j ≡ wrong m b j
same_wrong m a b j e = simp e

-- The first pair that passes is the first of which P holds, where the test decides P, and P holds of two entries in either order.
pub first_of : (Answers : ℕ → ℕ → Bool → Type 0) (P : ℕ → ℕ → Type 0) (end : ℕ)
    → ((a b : ℕ) → P a b → (a < end) × (b < end) × (a ≢ b))
    → ((a b : ℕ) → P a b → P b a)
    → ((a b : ℕ) (t : Bool) → a < b → b < end → Answers a b t → Decides t (P a b))
    → (o : Option Pair) → MatchOption o ((a b : ℕ) → a < b → b < end → Answers a b false) (FirstToPass Answers end)
    → MatchOption o ((a b : ℕ) → P a b → ⊥) (λ p. First P p.first p.second)
first_of Answers P end bounds swapped decides None none = λ a b p. either a b p (cases_order a b)
  where
    either : (a b : ℕ) → P a b → (a ≡ b) ⊎ ((a < b) ⊎ (b < a)) → ⊥
    either a b p (inl e) = (bounds a b p).2 e
    either a b p (inr (inl h)) = denied (decides a b false h (bounds a b p).1 (none a b h (bounds a b p).1)) p
    either a b p (inr (inr h)) = denied (decides b a false h (bounds a b p).0 (none b a h (bounds a b p).0)) (swapped a b p)
first_of Answers P end bounds swapped decides (Some x) f = record {
  holds = (decides x.first x.second true f.order f.within f.passes).0 refl;
  least = λ c d p. least c d p (cases_order c d);
}
  where
    later : (c d : ℕ) → P c d → c < d → (x.first < c) ⊎ ((x.first ≡ c) × (x.second ≤ d))
    later c d p h = by (dec_lt x.first c) (dec_lt c x.first) (dec_lt d x.second)
      where
        not_earlier : Earlier x c d → ⊥
        not_earlier e = denied (decides c d false h (bounds c d p).1 (f.earlier c d h (bounds c d p).1 e)) p

        by : Dec (x.first < c) → Dec (c < x.first) → Dec (d < x.second) → (x.first < c) ⊎ ((x.first ≡ c) × (x.second ≤ d))
        by (yes l) s t = inl l
        by (no l) (yes e) t = absurd (not_earlier (inl e))
        by (no l) (no e) (yes k) = absurd (not_earlier (inr (omega arith, k)))
        by (no l) (no e) (no k) = inr (omega arith, omega arith)

    least : (c d : ℕ) → P c d → (c ≡ d) ⊎ ((c < d) ⊎ (d < c)) → (x.first < c) ⊎ ((x.first ≡ c) × (x.second ≤ d))
    least c d p (inl e) = absurd ((bounds c d p).2 e)
    least c d p (inr (inl h)) = later c d p h
    least c d p (inr (inr h)) = past (later d c (swapped c d p) h)
      where
        past : (x.first < d) ⊎ ((x.first ≡ d) × (x.second ≤ c)) → (x.first < c) ⊎ ((x.first ≡ c) × (x.second ≤ d))
        past (inl l) = inl (omega arith)
        past (inr e) = inl (omega arith)

-- ---- what the words say

-- past the last entry there is nothing to pick
pub none_past : (m : Faults) (table : List ℕ) (i : ℕ) → length (entries m) ≤ i → combined m i table ≡ 0
none_past m table i past = by (ltb (length table) m.clocks)
  where
    by : (b : Bool) → cond b 0 (combination table (entry m i).error) ≡ 0
    by true = refl
    by false = ap (λ x. combination table x.error) (get_or_past (entries m) i good past) ∙ combination_zero table

-- the words entry by entry: at first all are 0, then one more is as it should be, and past the last entry 0 is right
pub words_none : (m : Faults) (table : List ℕ) (n : ℕ) → WordsUpTo m table (replicate n 0) 0
words_none m table n = record { first = λ k h. omega (arith, h); rest = λ k h. zeros k (dec_lt k n) }
  where
    zeros : (k : ℕ) → Dec (k < n) → slice_index (replicate n 0) k ≡ 0
    zeros k (yes l) = get_or-replicate n k 0 0 l
    zeros k (no l) = get_or_past (replicate n 0) k 0 (rw length-replicate (omega arith))

pub words_more : (m : Faults) (table ws : List ℕ) (i word : ℕ) → i < length ws → word ≡ combined m i table → WordsUpTo m table ws i → WordsUpTo m table (set ws i word) (i + 1)
words_more m table ws i word long is w = record {
  first = below_more _ _ (λ k h. let ne : k ≢ i = omega arith in rw get_or-set_other (w.first k h)) (rw get_or-set_same is);
  rest = λ k h. let ne : k ≢ i = omega arith in rw get_or-set_other (w.rest k (omega arith));
}

pub words_all : (m : Faults) (table ws : List ℕ) (i : ℕ) → length (entries m) ≤ i → WordsUpTo m table ws i → Words m table ws
words_all m table ws i all w k = by (dec_lt k i)
  where
    by : Dec (k < i) → get_or ws k 0 ≡ combined m k table
    by (yes l) = w.first k l
    by (no l) = w.rest k (omega arith) ∙ sym (none_past m table k (omega arith))

differ_swapped : {m : Faults} {a b : ℕ} → Differ m a b → Differ m b a
differ_swapped d = record { first = d.second; second = d.first; classes = λ e. d.classes (sym e) }

entries_differ : {m : Faults} {a b : ℕ} → Differ m a b → a ≢ b
entries_differ {m} d e = d.classes (ap (λ i. (entry m i).class) e)

-- every polynomial divides the sum of equal errors
pub equal_confused : (f : ℕ) (m : Faults) (a b : ℕ) → EqualErrors m a b → Confuses f m a b
equal_confused f m a b p =
    record { differ = p.differ; divides = (0, times_zero f ∙ sym (ap (λ x. bit_xor x (entry m b).error) p.equal ∙ xor_self (entry m b).error)) }

-- a feedback confuses entries of different class exactly where their errors have equal residues
module _ (f : ℕ) (laws : ResidueLaws f) (m : Faults) (a b : ℕ) where
  pub confused_by : Differ m a b → residue f (entry m a).error ≡ residue f (entry m b).error → Confuses f m a b
  confused_by d e = record { differ = d; divides = (laws.equal (entry m a).error (entry m b).error).0 e }

  pub confused_same : Confuses f m a b → residue f (entry m a).error ≡ residue f (entry m b).error
  confused_same p = (laws.equal (entry m a).error (entry m b).error).1 p.divides

-- so equal residues of entries of different class are what it confuses
module _ (f : ℕ) (laws : ResidueLaws f) (m : Faults) (ws : List ℕ) (r : Residues f m ws) where
  alike_confused : (a b : ℕ) → a < length (entries m) → b < length (entries m) → Alike m ws a b → Confuses f m a b
  alike_confused a b h k p =
      confused_by f laws m a b (record { first = h; second = k; classes = p.classes }) (sym (r a) ∙ p.same ∙ r b)

  confused_alike : (a b : ℕ) → Confuses f m a b → Alike m ws a b
  confused_alike a b p = record {
    same = r a ∙ confused_same f laws m a b p ∙ sym (r b);
    classes = p.differ.classes;
  }

  pub finds_confused : (end : ℕ) → end ≡ length (entries m) → (Answers : ℕ → ℕ → Bool → Type 0) → ((a b : ℕ) (t : Bool) → Answers a b t → Decides t (Alike m ws a b))
      → (o : Option Pair) → MatchOption o ((a b : ℕ) → a < b → b < end → Answers a b false) (FirstToPass Answers end) → FindsConfused f m o
  finds_confused end is Answers decides o found =
      first_of Answers (Confuses f m) (length (entries m)) (λ a b p. (p.differ.first, p.differ.second, entries_differ p.differ)) confused_swapped
      (λ a b t h k x. let d = decides a b t x in ((λ e. alike_confused a b (omega arith) k (d.0 e)), λ p. d.1 (confused_alike a b p)))
      o (subst (λ n. MatchOption o ((a b : ℕ) → a < b → b < n → Answers a b false) (FirstToPass Answers n)) is found)
    where
      confused_swapped : (a b : ℕ) → Confuses f m a b → Confuses f m b a
      confused_swapped a b p = confused_by f laws m b a (differ_swapped p.differ) (sym (confused_same f laws m a b p))

-- two entries of different class with equal words and equal errors
pub finds_equal : (m : Faults) (table ws : List ℕ) → Words m table ws → (end : ℕ) → end ≡ length (entries m) → (Answers : ℕ → ℕ → Bool → Type 0)
    → ((a b : ℕ) (t : Bool) → Answers a b t → Decides t (Alike m ws a b × SameError m a b))
    → (o : Option Pair) → MatchOption o ((a b : ℕ) → a < b → b < end → Answers a b false) (FirstToPass Answers end) → FindsEqual m o
finds_equal m table ws r end is Answers decides o found =
    answer o (first_of Answers (EqualErrors m) (length (entries m)) (λ a b p. (p.differ.first, p.differ.second, entries_differ p.differ)) swapped decided o
    (subst (λ n. MatchOption o ((a b : ℕ) → a < b → b < n → Answers a b false) (FirstToPass Answers n)) is found))
  where
    swapped : (a b : ℕ) → EqualErrors m a b → EqualErrors m b a
    swapped a b p = record { differ = differ_swapped p.differ; equal = sym p.equal }

    -- equal errors pick the same from any table
    picks : (a b : ℕ) → (entry m a).error ≡ (entry m b).error → combined m a table ≡ combined m b table
    picks a b e = simp e

    decided : (a b : ℕ) (t : Bool) → a < b → b < length (entries m) → Answers a b t → Decides t (EqualErrors m a b)
    decided a b t h k x = let d = decides a b t x in (
      (λ e. let p = d.0 e in record { differ = record { first = omega arith; second = k; classes = p.0.classes }; equal = p.1 }),
      (λ p. d.1 (record { same = r a ∙ picks a b p.equal ∙ sym (r b); classes = p.differ.classes }, p.equal)),
    )

    answer : (o : Option Pair) → MatchOption o (Distinct m) (λ p. First (EqualErrors m) p.first p.second) → FindsEqual m o
    answer None none = none
    answer (Some p) f = (f, λ g k. k p.first p.second (equal_confused g m p.first p.second f.holds))
