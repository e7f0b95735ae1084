-- The clocks of a fault, one by one, and the entries of a clock list.
use Rattle.std.proofs.Common.{◌≡◌, ℕ, zero, suc, ◌+◌, ◌-◌, ◌^◌, ◌<◌, ◌≤◌, true, false, eqb, ◌⊎◌, List, [], ◌∷◌, map, length, get_or, sym, refl, ap, ◌∙◌, subst, inl, inr, arith, pow_pos}
use native.Mathlib.Decide.{dec_lt}
use lib.Bits.{bit_xor}
use Rattle.std.proofs.lemmas.Bool.{eq-eqb, ne_eqb, cases_order}
use Rattle.std.specs.List.Sorted.{IsStrictlyIncreasing}
use Rattle.std.proofs.lemmas.Map.Keys.{below_from_sorted, sorted_from_strictly_increasing}
use Rattle.std.proofs.lemmas.List.Elements.{All-from_get_or}
use Rattle.std.proofs.lemmas.List.Folds.{list_any_at, list_any_none}
use Rattle.std.proofs.lemmas.List.{get_or-map, get_or_past, length-map}
use Rattle.gf2.specs.Responses.{response}
use Rattle.gf2.specs.Tables.{combination}
use Rattle.gf2.proofs.Responses.{response_below}
use Rattle.faults.specs.Meaning.{Fault, Faults, Lawful, good, entry, wrong}
use Rattle.faults.specs.Clocks.{among, blank, part, recorded, by_clocks, Below, Kept}
use Rattle.faults.specs.Picking.{picked}
use Rattle.faults.specs.declared.fault_record.FaultRecord.{FaultRecord}
use Rattle.faults.proofs.Errors.{entry_each, wrong_error, wrong_past, response_quiet, picked_wrong, picked_quiet, picked_all}

-- ---- membership

pub among_at : (cs : List ℕ) (k j : ℕ) → k < length cs → get_or cs k 0 ≡ j → among cs j ≡ true
among_at cs k j h e = list_any_at (λ c. eqb c j) cs k 0 h (eq-eqb (get_or cs k 0) j e)

pub among_none : (cs : List ℕ) (j : ℕ) → ((k : ℕ) → k < length cs → get_or cs k 0 ≡ j → ⊥) → among cs j ≡ false
among_none cs j h = list_any_none (λ c. eqb c j) cs (All-from_get_or (λ c. eqb c j ≡ false) cs 0 (λ k l. ne_eqb (get_or cs k 0) j (h k l)))

-- where the error of an entry is the response that is 1 at the clocks, they say where it is wrong
pub among_wrong : (m : Faults) (i : ℕ) (cs : List ℕ) → Below m.clocks cs → (entry m i).error ≡ response m.clocks (among cs) → (j : ℕ) → among cs j ≡ wrong m i j
among_wrong m i cs h e j = by (dec_lt j m.clocks)
  where
    by : Dec (j < m.clocks) → among cs j ≡ wrong m i j
    by (yes l) = wrong_error m i (among cs) e j l
    by (no l) = among_none cs j (λ k g e. omega (arith, h k g)) ∙ sym (wrong_past m.clocks (entry m i).error j (omega arith))

-- ---- the clocks one by one

-- rising clocks rise at any distance
rising_order : (cs : List ℕ) → IsStrictlyIncreasing cs → (i k : ℕ) → i < k → k < length cs → get_or cs i 0 < get_or cs k 0
rising_order cs h i k l m = below_from_sorted cs i k 0 (sorted_from_strictly_increasing cs h) l m

-- a clock that is not above the one before it
pub too_low : (cs : List ℕ) (i least clock : ℕ) → (i ≡ 0 → least ≡ 0) → ((k : ℕ) → k + 1 ≡ i → least ≡ get_or cs k 0 + 1) → clock ≡ get_or cs i 0 → clock < least → i < length cs → IsStrictlyIncreasing cs → ⊥
too_low cs zero least clock z s e l h r = omega (arith, z refl)
too_low cs (suc i) least clock z s e l h r =
    let n : i + 1 ≡ suc i = omega arith in
    let a = s i n in
    let b = subst (λ x. get_or cs i 0 < get_or cs x 0) n (r i (omega arith)) in
    omega arith

-- sum is what the first i clocks pick: those below some b, and no later one is below b
pub record Picked (n i sum : ℕ) (table cs : List ℕ) : Type 0 where
  pub bound : ℕ
  pub is : sum ≡ picked n table (among cs) bound
  pub before : (k : ℕ) → k < i → k < length cs → get_or cs k 0 < bound
  pub after : (k : ℕ) → i ≤ k → k < length cs → bound ≤ get_or cs k 0

module _ (n : ℕ) (table cs : List ℕ) (b : Below n cs) (r : IsStrictlyIncreasing cs) (long : n ≤ length table) where
  pub picked_more : (i sum : ℕ) → i < length cs → Picked n i sum table cs → Picked n (i + 1) (bit_xor sum (get_or table (n - 1 - get_or cs i 0) 0)) table cs
  picked_more i sum h p =
      let c = get_or cs i 0 in
      let low : p.bound ≤ c = p.after i (omega arith) h in
      let up : p.bound + (c - p.bound) ≡ c = omega arith in
      let none : (k : ℕ) → k < c - p.bound → among cs (p.bound + k) ≡ false =
      λ k l. among_none cs (p.bound + k) (λ x m e. absent x m (cases_order x i) (p.bound + k) (omega arith) (omega arith) (p.before x) e) in
      record {
        bound = c + 1;
        is = ap (λ x. bit_xor x (get_or table (n - 1 - c) 0)) (p.is ∙ sym (picked_quiet n table (among cs) p.bound (c - p.bound) none) ∙ ap (picked n table (among cs)) up)
            ∙ sym (picked_wrong n table (among cs) c (b i h) long (among_at cs i c h refl));
        before = λ k l m. earlier k l m (cases_order k i);
        after = λ k l m. omega (arith, rising_order cs r i k (omega arith) m);
      }
    where
      absent : (x : ℕ) → x < length cs → (x ≡ i) ⊎ ((x < i) ⊎ (i < x)) → (j : ℕ) → p.bound ≤ j → j < get_or cs i 0 → (x < i → x < length cs → get_or cs x 0 < p.bound) → get_or cs x 0 ≡ j → ⊥
      absent x m (inl e) j lo hi bef q = let z : get_or cs x 0 ≡ get_or cs i 0 = ap (λ y. get_or cs y 0) e in omega arith
      absent x m (inr (inl l)) j lo hi bef q = omega (arith, bef l m)
      absent x m (inr (inr l)) j lo hi bef q = omega (arith, rising_order cs r i x l m)

      earlier : (k : ℕ) → k < i + 1 → k < length cs → (k ≡ i) ⊎ ((k < i) ⊎ (i < k)) → get_or cs k 0 < get_or cs i 0 + 1
      earlier k l m (inl e) = let z : get_or cs k 0 ≡ get_or cs i 0 = ap (λ y. get_or cs y 0) e in omega arith
      earlier k l m (inr (inl g)) = omega (arith, rising_order cs r k i g h)
      earlier k l m (inr (inr g)) = absurd (omega arith)

  pub picked_whole : (i sum : ℕ) → length cs ≤ i → Picked n i sum table cs → sum ≡ combination table (response n (among cs))
  picked_whole i sum h p =
      p.is
      ∙ sym (picked_quiet n table (among cs) p.bound n (λ k l. among_none cs (p.bound + k) (λ x m e. omega (arith, p.before x (omega arith) m))))
      ∙ picked_all n table (among cs) (p.bound + n) (omega arith)

-- ---- the entries

response_of_none : (n : ℕ) → response n (among []) ≡ 0
response_of_none n = response_quiet n (among []) (λ j l. among_none [] j (λ k h. absurd (omega arith)))

blank_good : (n : ℕ) (cs : List ℕ) → recorded n cs blank ≡ good
blank_good n cs = ap (λ x. record { class = 0; error = x }) (response_of_none n)

pub blank_kept : (n : ℕ) (cs : List ℕ) → Kept n cs blank
blank_kept n cs = record { class = omega arith; within = omega arith; below = λ k l. absurd (omega arith); rising = λ k l. absurd (omega arith) }

-- the record of the good board, and of every number past the last entry
pub record_none : (rs : List FaultRecord) (i : ℕ) → (i ≡ 0) ⊎ (length rs < i) → get_or (blank ∷ rs) i blank ≡ blank
record_none rs zero h = refl
record_none rs (suc i) (inl e) = absurd (omega arith)
record_none rs (suc i) (inr l) = get_or_past rs i blank (omega arith)

-- the record of a fault
pub record_at : (rs : List FaultRecord) (i : ℕ) → 0 < i → get_or (blank ∷ rs) i blank ≡ get_or rs (i - 1) blank
record_at rs zero h = absurd (omega arith)
record_at rs (suc i) h = let e : i ≡ suc i - 1 = omega arith in ap (λ x. get_or rs x blank) e

module _ (n : ℕ) (rs : List FaultRecord) (cs : List ℕ) where
  -- an entry is what its record says, and the blank record says that of the good board
  pub clock_entry : (i : ℕ) → entry (by_clocks n rs cs) i ≡ recorded n cs (get_or (blank ∷ rs) i blank)
  clock_entry zero = sym (blank_good n cs)
  clock_entry (suc i) = by (dec_lt i (length rs))
    where
      by : Dec (i < length rs) → get_or (map (recorded n cs) rs) i good ≡ recorded n cs (get_or rs i blank)
      by (yes l) = get_or-map (recorded n cs) rs i blank good l
      by (no l) = get_or_past (map (recorded n cs) rs) i good (rw length-map (omega arith)) ∙ sym (blank_good n cs) ∙ ap (recorded n cs) (sym (get_or_past rs i blank (omega arith)))

  pub record_error : (i : ℕ) → (entry (by_clocks n rs cs) i).error ≡ response n (among (part cs (get_or (blank ∷ rs) i blank).clocks))
  record_error i = ap (λ (x : Fault). x.error) (clock_entry i)

  -- what the memory means keeps the rules of every list, also before a list holds it
  pub clocks_lawful : 1 ≤ n → n ≤ 4096 → length rs ≤ 200 → ((i : ℕ) → (get_or rs i blank).class ≤ 99) → Lawful (by_clocks n rs cs)
  clocks_lawful some most few classes = record {
    some = some;
    most = most;
    few = rw length-map few;
    class = each (λ x. x.class ≤ 99) (omega arith) classes;
    error = each (λ x. x.error < 2 ^ n) (pow_pos n) (λ k. response_below n (among (part cs (get_or rs k blank).clocks)));
  }
    where
      each : (P : Fault → Type 0) → P good → ((k : ℕ) → P (recorded n cs (get_or rs k blank))) → (i : ℕ) → P (entry (by_clocks n rs cs) i)
      each P none kept = entry_each (by_clocks n rs cs) P none (λ k l. subst P (sym (get_or-map (recorded n cs) rs k blank good (rw length-map at l))) (kept k))

  -- the rules hold past the last record too
  pub kept_all : ((k : ℕ) → k < length rs → Kept n cs (get_or rs k blank)) → (i : ℕ) → Kept n cs (get_or rs i blank)
  kept_all h i = by (dec_lt i (length rs))
    where
      by : Dec (i < length rs) → Kept n cs (get_or rs i blank)
      by (yes l) = h i l
      by (no l) = subst (Kept n cs) (sym (get_or_past rs i blank (omega arith))) (blank_kept n cs)
