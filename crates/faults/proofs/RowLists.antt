-- The entries of a row list.
use Rattle.std.proofs.Common.{◌≡◌, ℕ, zero, suc, ◌+◌, ◌-◌, ◌*◌, ◌/◌, ◌%◌, ◌^◌, ◌<◌, ◌≤◌, min, false, eqb, ◌++◌, length-append, add-one, add-mul, one-mul, zero-mul, le_refl, ◌⊎◌, List, [], ◌∷◌, map, length, get_or, take, drop, reverse, length-drop, sym, refl, ap, ◌∙◌, subst, ap₂, inl, inr, arith, pow_pos}
use native.Mathlib.Nat.{div-eq_of_lt}
use native.Mathlib.Decide.{dec_lt}
use Rattle.std.specs.List.{range_with_len, enumerate_from}
use Rattle.std.proofs.lemmas.List.FromFn.{length-map-range_with_len, get_or-map-range_with_len}
use Rattle.std.proofs.lemmas.List.{get_or_past, append-nil, reverse-append, take_all, take_at, length-take, length-take-le, length-reverse}
use Rattle.std.proofs.lemmas.Nat.{mul-le}
use Rattle.std.proofs.Math.Seq.{take-add, drop-cons}
use Rattle.gf2.specs.Polynomials.{coefficient}
use Rattle.gf2.specs.Responses.{response}
use Rattle.faults.specs.Meaning.{Fault, Lawful, good, entry}
use Rattle.faults.specs.Filling.{Follows}
use Rattle.faults.specs.Rows.{RowKept, stride, row, marked, marks, words_at, rowed, by_rows}
use Rattle.gf2.specs.Tables.{combination}
use Rattle.gf2.proofs.Responses.{response_same, response_below}
use Rattle.gf2.proofs.Tables.{combination_zero}
use Rattle.faults.proofs.Errors.{entry_each, response_quiet}
use Rattle.faults.proofs.Parts.{combination_parts}
use Rattle.faults.proofs.Words.{At, at}
use lib.Bits.{bit_xor, xor_assoc, xor_zero_r}

zero_coefficient : (i : ℕ) → eqb (coefficient 0 i) 1 ≡ false
zero_coefficient i = ap (λ x. eqb (x % 2) 1) (div-eq_of_lt (pow_pos i))

-- past the last byte
pub unmarked : (bytes : List ℕ) (j : ℕ) → length bytes ≤ j / 8 → marked bytes j ≡ false
unmarked bytes j h = ap (λ x. eqb (coefficient x (7 - j % 8)) 1) (get_or_past bytes (j / 8) 0 h) ∙ zero_coefficient (7 - j % 8)

response_of_no_bytes : (n : ℕ) → response n (marked []) ≡ 0
response_of_no_bytes n = response_quiet n (marked []) (λ j l. unmarked [] j (omega arith))

-- a fault for each class
pub row_count : (n : ℕ) (cs rs : List ℕ) → length (by_rows n cs rs).faults ≡ length cs
row_count n cs rs = length-map-range_with_len (rowed n cs rs) 0 (length cs)

module _ (n : ℕ) (cs rs : List ℕ) where
  pub row_entry_none : (i : ℕ) → (i ≡ 0) ⊎ (length cs < i) → entry (by_rows n cs rs) i ≡ record { class = 0; error = response n (marked []) }
  row_entry_none zero h = ap (λ x. record { class = 0; error = x }) (sym (response_of_no_bytes n))
  row_entry_none (suc i) h =
      get_or_past (map (rowed n cs rs) (range_with_len 0 (length cs))) i good (rw length-map-range_with_len (by h)) ∙ ap (λ x. record { class = 0; error = x }) (sym (response_of_no_bytes n))
    where
      by : (suc i ≡ 0) ⊎ (length cs < suc i) → length cs ≤ i
      by (inl e) = absurd (omega arith)
      by (inr l) = omega arith

  pub row_entry_at : (i : ℕ) → 0 < i → i ≤ length cs → entry (by_rows n cs rs) i ≡ rowed n cs rs (i - 1)
  row_entry_at zero h l = absurd (omega arith)
  row_entry_at (suc i) h l =
      let e : suc i - 1 ≡ i = omega arith in
      get_or-map-range_with_len (rowed n cs rs) 0 (length cs) i i good (omega arith) (omega arith) ∙ ap (rowed n cs rs) (sym e)

  -- the k bytes from the beginning of the row at place i - 1
  pub row_error_at : (i k : ℕ) → 0 < i → i ≤ length cs → k ≡ stride n
      → (entry (by_rows n cs rs) i).error ≡ response n (marked (take k (take (length rs - (i - 1) * k) (drop ((i - 1) * k) rs))))
  row_error_at i k h l is =
      ap (λ (x : Fault). x.error) (row_entry_at i h l)
      ∙ ap (λ x. response n (marked (take x (drop ((i - 1) * x) rs)))) (sym is)
      ∙ ap (λ x. response n (marked (take k x))) (sym (take_all (length rs - (i - 1) * k) (drop ((i - 1) * k) rs) (omega (arith, length-drop ((i - 1) * k) rs))))

  -- the class of the good board is 0, as that past the last class
  pub row_class : (i : ℕ) → (entry (by_rows n cs rs) i).class ≡ get_or (0 ∷ cs) i 0
  row_class zero = refl
  row_class (suc i) = by (dec_lt i (length cs))
    where
      by : Dec (i < length cs) → (entry (by_rows n cs rs) (suc i)).class ≡ get_or cs i 0
      by (yes l) = ap (λ (x : Fault). x.class) (get_or-map-range_with_len (rowed n cs rs) 0 (length cs) i i good l (omega arith))
      by (no l) =
          ap (λ (x : Fault). x.class) (get_or_past (map (rowed n cs rs) (range_with_len 0 (length cs))) i good (rw length-map-range_with_len (omega arith)))
          ∙ sym (get_or_past cs i 0 (omega arith))

  -- what the memory means keeps the rules of every list, also before a list holds it
  pub rows_lawful : 1 ≤ n → n ≤ 4096 → length cs ≤ 200 → ((i : ℕ) → get_or cs i 0 ≤ 99) → Lawful (by_rows n cs rs)
  rows_lawful some most few classed = record {
    some = some;
    most = most;
    few = rw length-map-range_with_len few;
    class = each (λ x. x.class ≤ 99) (omega arith) classed;
    error = each (λ x. x.error < 2 ^ n) (pow_pos n) (λ k. response_below n (marked (row n rs k)));
  }
    where
      each : (P : Fault → Type 0) → P good → ((k : ℕ) → P (rowed n cs rs k)) → (i : ℕ) → P (entry (by_rows n cs rs) i)
      each P none kept = entry_each (by_rows n cs rs) P none (λ k l. subst P (sym (get_or-map-range_with_len (rowed n cs rs) 0 (length cs) k k good (rw length-map-range_with_len at l) (omega arith))) (kept k))

-- ---- the memory of the rows

-- where each row has its bytes, the memory has those of all
pub rows_room : (n count long : ℕ) → ((i : ℕ) → i < count → (i + 1) * stride n ≤ long) → count * stride n ≤ long
rows_room n zero long h = rw zero-mul (omega arith)
rows_room n (suc count) long h = let e : count + 1 ≡ suc count = omega arith in subst (λ x. x * stride n ≤ long) e (h count (omega arith))

-- a row lies within
pub row_within : (n i count long : ℕ) → 0 < i → i ≤ count → count * stride n ≤ long → (i - 1) * stride n + stride n ≤ long
row_within n i count long h l room =
    let e : i - 1 + 1 ≡ i = omega arith in
    let a = mul-le i (stride n) count (stride n) l (le_refl (stride n)) in
    let b : (i - 1) * stride n + stride n ≡ i * stride n = ap (λ x. (i - 1) * stride n + x) (sym (one-mul (stride n))) ∙ sym (add-mul (i - 1) 1 (stride n)) ∙ ap (λ x. x * stride n) e in
    omega arith

-- past the last class a place reads 0
pub classes_all : (cs : List ℕ) → ((k : ℕ) → k < length cs → get_or cs k 0 ≤ 99) → (i : ℕ) → get_or cs i 0 ≤ 99
classes_all cs h i = by (dec_lt i (length cs))
  where
    by : Dec (i < length cs) → get_or cs i 0 ≤ 99
    by (yes l) = h i l
    by (no l) = rw (get_or_past cs i 0 (omega arith)) (omega arith)

-- a row that lies within has all its bytes
pub row_whole : (n i k : ℕ) (cs rs : List ℕ) → Follows n (length cs) (RowKept n cs rs) → i < length cs → k ≡ stride n
    → k ≡ length (take k (take (length rs - i * k) (drop (i * k) rs)))
row_whole n i k cs rs h l is =
    let within : (i + 1) * k ≤ length rs = subst (λ x. (i + 1) * x ≤ length rs) (sym is) (h.each i l).within in
    let more : (i + 1) * k ≡ i * k + k = add-mul i 1 k ∙ ap (λ x. i * k + x) (one-mul k) in
    let rest = drop (i * k) rs in
    omega (arith, length-take k (take (length rs - i * k) rest), length-take (length rs - i * k) rest, length-drop (i * k) rs)

-- ---- one byte of a row

-- the marks of the byte at place b
pub marked_byte : (bytes : List ℕ) (b k : ℕ) → k < 8 → marked bytes (8 * b + k) ≡ eqb (coefficient (get_or bytes b 0) (7 - k)) 1
marked_byte bytes b k h =
    let q : (8 * b + k) / 8 ≡ b = omega arith in
    let r : (8 * b + k) % 8 ≡ k = omega arith in
    ap₂ (λ x y. eqb (coefficient (get_or bytes x 0) (7 - y)) 1) q r

-- a zero byte marks no clock
pub zero_byte : (bytes : List ℕ) (b : ℕ) → get_or bytes b 0 ≡ 0 → (k : ℕ) → k < 8 → marked bytes (8 * b + k) ≡ false
zero_byte bytes b e k h = marked_byte bytes b k h ∙ ap (λ x. eqb (coefficient x (7 - k)) 1) e ∙ zero_coefficient (7 - k)

marked_first : (byte : ℕ) (bytes : List ℕ) (k : ℕ) → k < 8 → marked (byte ∷ bytes) k ≡ marks byte k
marked_first byte bytes k h =
    let q : k / 8 ≡ 0 = omega arith in
    let r : k % 8 ≡ k = omega arith in
    ap₂ (λ x y. eqb (coefficient (get_or (byte ∷ bytes) x 0) (7 - y)) 1) q r

marked_later : (byte : ℕ) (bytes : List ℕ) (k : ℕ) → marked (byte ∷ bytes) (8 + k) ≡ marked bytes k
marked_later byte bytes k =
    let q : (8 + k) / 8 ≡ suc (k / 8) = omega arith in
    let r : (8 + k) % 8 ≡ k % 8 = omega arith in
    ap₂ (λ x y. eqb (coefficient (get_or (byte ∷ bytes) x 0) (7 - y)) 1) q r

-- the words of the byte at a place, and those before them
pub length-words_at : (words : List ℕ) (place : ℕ) → length (words_at words place) ≡ min 8 (length words - 8 * place)
length-words_at words place =
    let low = length words - 8 * (place + 1) in
    omega (arith, length-take (min 8 (length words - 8 * place)) (drop low words), length-drop low words)

pub words_cut : (words : List ℕ) (place : ℕ) → take (length words - 8 * (place + 1)) words ++ words_at words place ≡ take (length words - 8 * place) words
words_cut words place =
    let low = length words - 8 * (place + 1) in
    let high : low + min 8 (length words - 8 * place) ≡ length words - 8 * place = omega arith in
    sym (take-add low (min 8 (length words - 8 * place)) words) ∙ ap (λ k. take k words) high

-- of the words that are left, the last eight, the last one first
last_eight : (words : List ℕ) (place : ℕ) → take 8 (reverse (take (length words - 8 * place) words)) ≡ reverse (words_at words place)
last_eight words place =
    let low = length words - 8 * (place + 1) in
    let eight = words_at words place in
    ap (λ l. take 8 (reverse l)) (sym (words_cut words place)) ∙ ap (take 8) (reverse-append (take low words) eight) ∙ by (dec_lt (length eight) 8)
  where
    by : Dec (length (words_at words place) < 8) → take 8 (reverse (words_at words place) ++ reverse (take (length words - 8 * (place + 1)) words)) ≡ reverse (words_at words place)
    by (no l) =
        let eight = words_at words place in
        take_at (reverse eight) (reverse (take (length words - 8 * (place + 1)) words)) 8 (length-reverse eight ∙ omega (arith, length-words_at words place))
    by (yes l) =
        let eight = words_at words place in
        let none : length words - 8 * (place + 1) ≡ 0 = omega (arith, length-words_at words place) in
        ap (λ k. take 8 (reverse eight ++ reverse (take k words))) none
        ∙ ap (take 8) (append-nil (reverse eight))
        ∙ take_all 8 (reverse eight) (omega (arith, length-reverse eight))

pub at_eight : (words : List ℕ) (place k : ℕ) (p : ℕ × ℕ)
    → let back = enumerate_from 0 (take 8 (reverse (take (length words - 8 * place) words))) in (k < length back) × (p ≡ get_or back k p) → At (words_at words place) k p
at_eight words place k p turn =
    let there = subst (λ l. (k < length (enumerate_from 0 l)) × (p ≡ get_or (enumerate_from 0 l) k p)) (last_eight words place) turn in
    at (words_at words place) k p there.0 there.1

-- a byte picks from its words, and the other bytes pick from the words before those
module _ (front eight : List ℕ) (byte : ℕ) (bytes : List ℕ) (long : length eight ≡ min 8 (length (front ++ eight))) where
  pub picked_byte : combination (front ++ eight) (response (length (front ++ eight)) (marked (byte ∷ bytes)))
      ≡ bit_xor (combination eight (response (length eight) (marks byte))) (combination front (response (length front) (marked bytes)))
  picked_byte =
      let all = length-append front eight in
      combination_parts front eight (marked (byte ∷ bytes))
      ∙ ap₂ (λ p q. bit_xor (combination eight p) (combination front q))
      (response_same (length eight) (marked (byte ∷ bytes)) (marks byte) (λ k l. marked_first byte bytes k (omega arith)))
      (response_same (length front) (λ k. marked (byte ∷ bytes) (length eight + k)) (marked bytes)
      (λ k l. let e : length eight + k ≡ 8 + k = omega arith in ap (marked (byte ∷ bytes)) e ∙ marked_later byte bytes k))

-- what the bytes from a place on have still to pick, with what was picked, is the whole
abbrev pub Left : List ℕ → List ℕ → ℕ → ℕ → Type 0
Left words row place sum =
    let front = take (length words - 8 * place) words in
    bit_xor sum (combination front (response (length front) (marked (drop place row)))) ≡ combination words (response (length words) (marked row))

module _ (words row : List ℕ) (place sum : ℕ) (within : place < length row) where
  byte_first : drop place row ≡ get_or row place 0 ∷ drop (place + 1) row
  byte_first = drop-cons row place 0 within ∙ ap (λ k. get_or row place 0 ∷ drop k row) (sym (add-one place))

  pub left_more : (eight : List ℕ) (picks : ℕ) → take (length words - 8 * (place + 1)) words ++ eight ≡ take (length words - 8 * place) words
      → length eight ≡ min 8 (length words - 8 * place) → picks ≡ combination eight (response (length eight) (marks (get_or row place 0)))
      → Left words row place sum → Left words row (place + 1) (bit_xor sum picks)
  left_more eight picks cut long is left =
      let front = take (length words - 8 * (place + 1)) words in
      let after = drop (place + 1) row in
      let rest = combination front (response (length front) (marked after)) in
      let n : length eight ≡ min 8 (length (front ++ eight)) = long ∙ ap (min 8) (sym (length-take-le (length words - 8 * place) words (omega arith)) ∙ ap length (sym cut)) in
      xor_assoc sum picks rest
      ∙ ap (bit_xor sum)
      (ap (λ x. bit_xor x rest) is ∙ sym (picked_byte front eight (get_or row place 0) after n)
      ∙ ap₂ (λ x y. combination x (response (length x) (marked y))) cut (sym byte_first))
      ∙ left

  -- a byte of 0 picks nothing
  pub left_zero : get_or row place 0 ≡ 0 → Left words row place sum → Left words row (place + 1) sum
  left_zero none left =
      let eight = words_at words place in
      let byte = get_or row place 0 in
      let quiet : response (length eight) (marks byte) ≡ 0 = response_quiet (length eight) (marks byte) (λ k l. ap (λ b. marks b k) none ∙ zero_coefficient (7 - k)) in
      let picks : combination eight (response (length eight) (marks byte)) ≡ 0 = ap (combination eight) quiet ∙ combination_zero eight in
      subst (Left words row (place + 1)) (xor_zero_r sum) (left_more eight 0 (words_cut words place) (length-words_at words place) (sym picks) left)

pub left_end : (words row : List ℕ) (place sum : ℕ) → length row ≤ place → Left words row place sum → sum ≡ combination words (response (length words) (marked row))
left_end words row place sum h left =
    let front = take (length words - 8 * place) words in
    let none : response (length front) (marked (drop place row)) ≡ 0 =
    response_quiet (length front) (marked (drop place row)) (λ k l. unmarked (drop place row) k (omega (arith, length-drop place row))) in
    sym (ap (bit_xor sum) (ap (combination front) none ∙ combination_zero front) ∙ xor_zero_r sum) ∙ left
