-- An error, clock by clock.
use Rattle.std.proofs.Common.{◌≡◌, ℕ, zero, suc, ◌+◌, ◌-◌, ◌*◌, ◌/◌, ◌%◌, ◌^◌, ◌<◌, ◌≤◌, min, Bool, true, false, cond, eqb, ltb, List, [], ◌∷◌, length, get_or, take, sym, refl, ap, ◌∙◌, subst, ap₂, add-zero, mul_assoc, mul_comm, add-mul, one-mul, zero-mul, mul-one, arith, pow_pos, pow_mono, le-ltb, lt-ltb}
use Rattle.std.proofs.lemmas.List.{length-take-le, get_or_past}
use native.Mathlib.Nat.{min-eq_left, min-eq_right}
use native.Mathlib.Decide.{dec_lt}
use lib.Bits.{bit_xor, xor_shifted}
use Rattle.gf2.specs.Polynomials.{coefficient, residue}
use Rattle.gf2.specs.Responses.{bit, response}
use Rattle.gf2.specs.Tables.{combination, Powers}
use Rattle.gf2.proofs.Responses.{response_none, response_below, response_more, response_same, response_coefficient, response_of}
use Rattle.gf2.proofs.Tables.{combination_zero, combination_xor, combination_power}
use Rattle.faults.specs.Meaning.{Fault, Faults, Lawful, good, entry, wrong, combined}
use Rattle.faults.specs.Picking.{front, picked}

bit_one : (b : Bool) → eqb (bit b) 1 ≡ b
bit_one true = refl
bit_one false = refl

-- the error of an entry is the response that is 1 at its wrong clocks
pub error_of : (m : Faults) (i : ℕ) → Lawful m → response m.clocks (wrong m i) ≡ (entry m i).error
error_of m i s =
    let there : ℕ → Bool = λ j. eqb (coefficient (entry m i).error (m.clocks - 1 - j)) 1 in
    response_same m.clocks (wrong m i) there (λ j l. ap (λ b. cond b (there j) false) (lt-ltb j m.clocks l))
    ∙ response_of m.clocks (entry m i).error (s.error i)

-- what holds of the good board and of every fault holds of every entry
pub entry_each : (m : Faults) (P : Fault → Type 0) → P good → ((k : ℕ) → k < length m.faults → P (get_or m.faults k good)) → (i : ℕ) → P (entry m i)
entry_each m P none each zero = none
entry_each m P none each (suc i) = by (dec_lt i (length m.faults))
  where
    by : Dec (i < length m.faults) → P (get_or m.faults i good)
    by (yes l) = each i l
    by (no l) = subst P (sym (get_or_past m.faults i good (omega arith))) none

-- the response that has w j at clock j says at each clock what w says
pub wrong_response : (n : ℕ) (w : ℕ → Bool) (j : ℕ) → j < n → cond (ltb j n) (eqb (coefficient (response n w) (n - 1 - j)) 1) false ≡ w j
wrong_response n w j l =
    ap (λ b. cond b (eqb (coefficient (response n w) (n - 1 - j)) 1) false) (lt-ltb j n l) ∙ ap (λ x. eqb x 1) (response_coefficient n w j l) ∙ bit_one (w j)

pub wrong_past : (n p j : ℕ) → n ≤ j → cond (ltb j n) (eqb (coefficient p (n - 1 - j)) 1) false ≡ false
wrong_past n p j h = ap (λ b. cond b (eqb (coefficient p (n - 1 - j)) 1) false) (le-ltb j n h)

-- where the error of an entry is that response, w says where it is wrong
pub wrong_error : (m : Faults) (i : ℕ) (w : ℕ → Bool) → (entry m i).error ≡ response m.clocks w → (j : ℕ) → j < m.clocks → w j ≡ wrong m i j
wrong_error m i w e j l =
    sym (wrong_response m.clocks w j l) ∙ ap (λ p. cond (ltb j m.clocks) (eqb (coefficient p (m.clocks - 1 - j)) 1) false) (sym e)

-- a response that is 0 everywhere
pub response_quiet : (n : ℕ) (w : ℕ → Bool) → ((j : ℕ) → j < n → w j ≡ false) → response n w ≡ 0
response_quiet zero w h = response_none w
response_quiet (suc n) w h = response_more n w ∙ ap₂ (λ p c. 2 * p + bit c) (response_quiet n w (λ j l. h j (omega arith))) (h n (omega arith))

-- ---- what an error picks from a table

front_split : (n j : ℕ) (w : ℕ → Bool) → j < n → front n w (j + 1) ≡ front n w j + bit (w j) * 2 ^ (n - 1 - j)
front_split n j w h =
    let s : j + 1 ≡ suc j = omega arith in
    let a : n - (j + 1) ≡ n - 1 - j = omega arith in
    let b : n - j ≡ suc (n - 1 - j) = omega arith in
    let t : 2 * 2 ^ (n - 1 - j) ≡ 2 ^ (n - j) = rw b (omega arith) in
    ap₂ (λ x y. response x w * 2 ^ y) s a
    ∙ ap (λ x. x * 2 ^ (n - 1 - j)) (response_more j w)
    ∙ add-mul (2 * response j w) (bit (w j)) (2 ^ (n - 1 - j))
    ∙ ap (λ x. x + bit (w j) * 2 ^ (n - 1 - j))
    (ap (λ x. x * 2 ^ (n - 1 - j)) (mul_comm 2 (response j w)) ∙ mul_assoc (response j w) 2 (2 ^ (n - 1 - j)) ∙ ap (λ x. response j w * x) t)

front_right : (n j : ℕ) (w : ℕ → Bool) → j < n → w j ≡ false → front n w (j + 1) ≡ front n w j
front_right n j w h e = front_split n j w h ∙ ap (λ b. front n w j + bit b * 2 ^ (n - 1 - j)) e ∙ ap (λ x. front n w j + x) (zero-mul (2 ^ (n - 1 - j))) ∙ add-zero (front n w j)

front_wrong : (n j : ℕ) (w : ℕ → Bool) → j < n → w j ≡ true → front n w (j + 1) ≡ bit_xor (front n w j) (2 ^ (n - 1 - j))
front_wrong n j w h e =
    let b : n - j ≡ suc (n - 1 - j) = omega arith in
    let l : 2 ^ (n - 1 - j) < 2 ^ (n - j) = rw b (omega (arith, pow_pos (n - 1 - j))) in
    front_split n j w h ∙ ap (λ b. front n w j + bit b * 2 ^ (n - 1 - j)) e ∙ ap (λ x. front n w j + x) (one-mul (2 ^ (n - 1 - j)))
    ∙ sym (xor_shifted (response j w) (n - j) (2 ^ (n - 1 - j)) l)

module _ (n : ℕ) (table : List ℕ) (w : ℕ → Bool) where
  pub picked_none : picked n table w 0 ≡ 0
  picked_none =
      let z : min 0 n ≡ 0 = min-eq_left (omega arith) in
      ap (λ j. combination table (front n w j)) z
      ∙ ap (combination table) (ap (λ x. x * 2 ^ (n - 0)) (response_none w) ∙ zero-mul (2 ^ (n - 0)))
      ∙ combination_zero table

  pub picked_all : (j : ℕ) → n ≤ j → picked n table w j ≡ combination table (response n w)
  picked_all j h =
      let z : n - n ≡ 0 = omega arith in
      ap (λ x. combination table (front n w x)) (min-eq_right h)
      ∙ ap (combination table) (ap (λ x. response n w * 2 ^ x) z ∙ mul-one (response n w))

  pub picked_past : (j : ℕ) → n ≤ j → picked n table w (j + 1) ≡ picked n table w j
  picked_past j h =
      let a : min (j + 1) n ≡ n = min-eq_right (omega arith) in
      ap (λ x. combination table (front n w x)) (a ∙ sym (min-eq_right h))

  -- a clock that is not wrong
  pub picked_right : (j : ℕ) → w j ≡ false → picked n table w (j + 1) ≡ picked n table w j
  picked_right j e = by (dec_lt j n)
    where
      by : Dec (j < n) → picked n table w (j + 1) ≡ picked n table w j
      by (no l) = picked_past j (omega arith)
      by (yes l) =
          let low : j ≤ n = omega arith in
          let a : min (j + 1) n ≡ j + 1 = min-eq_left (omega arith) in
          ap (λ x. combination table (front n w x)) a ∙ ap (combination table) (front_right n j w l e) ∙ ap (λ x. combination table (front n w x)) (sym (min-eq_left low))

  -- one that is, and its word
  pub picked_wrong : (j : ℕ) → j < n → n ≤ length table → w j ≡ true → picked n table w (j + 1) ≡ bit_xor (picked n table w j) (get_or table (n - 1 - j) 0)
  picked_wrong j l long e =
      let low : j ≤ n = omega arith in
      let a : min (j + 1) n ≡ j + 1 = min-eq_left (omega arith) in
      ap (λ x. combination table (front n w x)) a
      ∙ ap (combination table) (front_wrong n j w l e)
      ∙ combination_xor table (front n w j) (2 ^ (n - 1 - j))
      ∙ ap₂ bit_xor (ap (λ x. combination table (front n w x)) (sym (min-eq_left low))) (combination_power table (n - 1 - j) (omega arith))

  -- a stretch with no wrong clock
  pub picked_quiet : (j d : ℕ) → ((k : ℕ) → k < d → w (j + k) ≡ false) → picked n table w (j + d) ≡ picked n table w j
  picked_quiet j zero h = let e : j + 0 ≡ j = omega arith in ap (picked n table w) e
  picked_quiet j (suc d) h =
      let e : j + suc d ≡ j + d + 1 = omega arith in
      ap (picked n table w) e ∙ picked_right (j + d) (h d (omega arith)) ∙ picked_quiet j d (λ k l. h k (omega arith))

-- ---- the words of the n clocks are enough

combination_front : (ts : List ℕ) (n p : ℕ) → p < 2 ^ n → combination (take n ts) p ≡ combination ts p
unfolding combination
combination_front [] zero p h = refl
combination_front [] (suc n) p h = refl
combination_front (t ∷ ts) zero p h = let z : p ≡ 0 = omega arith in sym (ap (combination (t ∷ ts)) z ∙ combination_zero (t ∷ ts))
combination_front (t ∷ ts) (suc n) p h = ap (bit_xor (p % 2 * t)) (combination_front ts n (p / 2) (omega arith))

pub combination_take : (table : List ℕ) (n : ℕ) (w : ℕ → Bool) → combination (take n table) (response n w) ≡ combination table (response n w)
combination_take table n w = combination_front table n (response n w) (response_below n w)

-- what an error picks, it picks from those
pub combined_take : (m : Faults) (i : ℕ) (table words : List ℕ) → Lawful m → words ≡ take m.clocks table → m.clocks ≤ length table
    → combination words (response (length words) (wrong m i)) ≡ combined m i table
combined_take m i table words lawful is enough =
    let long : length words ≡ m.clocks = ap length is ∙ length-take-le m.clocks table enough in
    ap₂ (λ ts n. combination ts (response n (wrong m i))) is long
    ∙ combination_take table m.clocks (wrong m i)
    ∙ ap (combination table) (error_of m i lawful)
    ∙ sym (ap (λ b. cond b 0 (combination table (entry m i).error)) (le-ltb (length table) m.clocks enough))

-- ---- the residue of an error

-- what it picks from a table of the powers of x
pub combined_residue : (f : ℕ) (m : Faults) (i : ℕ) (table : List ℕ) → Lawful m → Powers f table → m.clocks ≤ length table → combined m i table ≡ residue f (entry m i).error
combined_residue f m i table lawful powers long =
    let more : 2 ^ m.clocks ≤ 2 ^ length table = pow_mono long in
    ap (λ b. cond b 0 (combination table (entry m i).error)) (le-ltb (length table) m.clocks long)
    ∙ powers.residues (entry m i).error (omega (arith, lawful.error i))
