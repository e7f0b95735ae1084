-- A response, one clock longer; its bits and its coefficients; and a response by what it has at each clock.
use Rattle.std.proofs.Common.{◌≡◌, ℕ, zero, suc, ◌+◌, ◌-◌, ◌*◌, ◌/◌, ◌%◌, ◌^◌, ◌<◌, ◌≤◌, Bool, true, false, eqb, List, [], map, length, get_or, take, sym, refl, ap, ◌∙◌, subst, ap₂, add-one, arith, shr-shr}
use Rattle.std.proofs.Math.Decide.{dec_lt}
use mir.Val.{bool_byte}
use Rattle.std.proofs.lemmas.List.{take_all}
use Rattle.std.proofs.lemmas.List.Sums.{fold_more}
use Rattle.std.proofs.lemmas.List.FromFn.{length-map-range_with_len, get_or-map-range_with_len, take-map-range_with_len}
use Rattle.std.specs.List.{range_with_len}
use Rattle.gf2.specs.Polynomials.{coefficient, residue}
use Rattle.gf2.specs.Responses.{bit, polynomial, response, Longer}
use Rattle.gf2.specs.Laws.{ResponseLaws}
use Rattle.gf2.proofs.Sums.{Degree, by_digit}
use Rattle.gf2.proofs.Remainders.{residue_zero, residue_again}

pub bit_below : (c : Bool) → bit c < 2
bit_below true = omega arith
bit_below false = omega arith

-- what a digit is in the code
pub bit_is : (c : Bool) → bool_byte c ≡ bit c
bit_is true = refl
bit_is false = refl

pub polynomial_none : polynomial [] ≡ 0
unfolding polynomial
polynomial_none = refl

pub no_bits : (f : ℕ) → residue f (polynomial []) ≡ 0
unfolding polynomial
no_bits f = residue_zero f

pub polynomial_more : (bits : List Bool) (i : ℕ) → i < length bits → polynomial (take (i + 1) bits) ≡ 2 * polynomial (take i bits) + bit (get_or bits i false)
unfolding polynomial
polynomial_more bits i h = fold_more (λ p c. 2 * p + bit c) 0 bits i false h

-- what is left of x·r + c is the residue of a response with one bit more
pub longer : (k f : ℕ) → Degree f k → (p s : ℕ) → s ≡ residue f p → (r : ℕ) (c : Bool) → p ≡ 2 * r + bit c → Longer f r c s
longer k f d p s is r c e bits i l here was =
    let front = polynomial (take i bits) in
    is ∙ ap (residue f) (e ∙ ap (λ x. 2 * x + bit c) was)
    ∙ residue_again k f d front (bit c) (bit_below c)
    ∙ ap (λ b. residue f (2 * front + bit b)) (sym here)
    ∙ ap (residue f) (sym (polynomial_more bits i l))

-- ---- the bit of clock j

coefficient_last : (p c : ℕ) → c < 2 → coefficient (2 * p + c) 0 ≡ c
coefficient_last p c h = omega arith

coefficient_more : (p c i : ℕ) → c < 2 → coefficient (2 * p + c) (suc i) ≡ coefficient p i
coefficient_more p c i h =
    let e : (2 * p + c) / 2 / 2 ^ i ≡ (2 * p + c) / 2 ^ (1 + i) = shr-shr (2 * p + c) 1 i in
    let n : 1 + i ≡ suc i = omega arith in
    let m : (2 * p + c) / 2 ≡ p = omega arith in
    ap (λ x. x % 2) (sym (e ∙ ap (λ x. (2 * p + c) / 2 ^ x) n) ∙ ap (λ x. x / 2 ^ i) m)

module _ (bits : List Bool) (j : ℕ) where
  front_coefficient : (i : ℕ) → i ≤ length bits → j < i → coefficient (polynomial (take i bits)) (i - 1 - j) ≡ bit (get_or bits j false)
  front_coefficient zero l h = absurd (omega arith)
  front_coefficient (suc i) l h = ap (λ n. coefficient (polynomial (take n bits)) (suc i - 1 - j)) (sym (add-one i)) ∙ ap (λ p. coefficient p (suc i - 1 - j)) (polynomial_more bits i l) ∙ by (dec_lt j i) (front_coefficient i (omega arith))
    where
      by : Dec (j < i) → (j < i → coefficient (polynomial (take i bits)) (i - 1 - j) ≡ bit (get_or bits j false)) → coefficient (2 * polynomial (take i bits) + bit (get_or bits i false)) (suc i - 1 - j) ≡ bit (get_or bits j false)
      by (yes m) ih =
          let e : suc i - 1 - j ≡ suc (i - 1 - j) = omega arith in
          ap (coefficient (2 * polynomial (take i bits) + bit (get_or bits i false))) e ∙ coefficient_more (polynomial (take i bits)) (bit (get_or bits i false)) (i - 1 - j) (bit_below (get_or bits i false)) ∙ ih m
      by (no m) ih =
          let e : suc i - 1 - j ≡ 0 = omega arith in
          let s : i ≡ j = omega arith in
          ap (coefficient (2 * polynomial (take i bits) + bit (get_or bits i false))) e ∙ coefficient_last (polynomial (take i bits)) (bit (get_or bits i false)) (bit_below (get_or bits i false)) ∙ ap (λ x. bit (get_or bits x false)) s

bit_of_clock : (bits : List Bool) (j : ℕ) → j < length bits → coefficient (polynomial bits) (length bits - 1 - j) ≡ bit (get_or bits j false)
bit_of_clock bits j h =
    ap (λ b. coefficient (polynomial b) (length bits - 1 - j)) (sym (take_all (length bits) bits (omega arith))) ∙ front_coefficient bits j (length bits) (omega arith) h

front_below : (bits : List Bool) (i : ℕ) → i ≤ length bits → polynomial (take i bits) < 2 ^ i
front_below bits zero l = rw polynomial_none (omega arith)
front_below bits (suc i) l =
    let h = front_below bits i (omega arith) in
    let b = bit_below (get_or bits i false) in
    subst (λ n. polynomial (take n bits) < 2 ^ suc i) (add-one i) (rw (polynomial_more bits i l) (omega arith))

polynomial_below : (bits : List Bool) → polynomial bits < 2 ^ length bits
polynomial_below bits = subst (λ b. polynomial b < 2 ^ length bits) (take_all (length bits) bits (omega arith)) (front_below bits (length bits) (omega arith))

pub response_laws : ResponseLaws
response_laws = record { bits = bit_of_clock; below = polynomial_below }

-- ---- a response by what it has at each clock

pub response_none : (w : ℕ → Bool) → response 0 w ≡ 0
unfolding response
response_none w = polynomial_none

pub response_more : (n : ℕ) (w : ℕ → Bool) → response (suc n) w ≡ 2 * response n w + bit (w n)
unfolding response
response_more n w =
    let bits = map w (range_with_len 0 (suc n)) in
    let long : length bits ≡ suc n = length-map-range_with_len w 0 (suc n) in
    ap polynomial (sym (take_all (n + 1) bits (omega arith)))
    ∙ polynomial_more bits n (omega arith)
    ∙ ap₂ (λ b c. 2 * polynomial b + bit c) (take-map-range_with_len w 0 (suc n) n (omega arith)) (get_or-map-range_with_len w 0 (suc n) n n false (omega arith) (omega arith))

pub response_below : (n : ℕ) (w : ℕ → Bool) → response n w < 2 ^ n
unfolding response
response_below n w = subst (λ k. polynomial (map w (range_with_len 0 n)) < 2 ^ k) (length-map-range_with_len w 0 n) (polynomial_below (map w (range_with_len 0 n)))

-- the bit of clock j is the coefficient of x^(n-1-j)
pub response_coefficient : (n : ℕ) (w : ℕ → Bool) (j : ℕ) → j < n → coefficient (response n w) (n - 1 - j) ≡ bit (w j)
unfolding response
response_coefficient n w j h =
    let long : length (map w (range_with_len 0 n)) ≡ n = length-map-range_with_len w 0 n in
    ap (λ k. coefficient (polynomial (map w (range_with_len 0 n))) (k - 1 - j)) (sym long)
    ∙ bit_of_clock (map w (range_with_len 0 n)) j (omega arith)
    ∙ ap bit (get_or-map-range_with_len w 0 n j j false h (omega arith))

-- what it has from clock n on does not matter
pub response_same : (n : ℕ) (v w : ℕ → Bool) → ((j : ℕ) → j < n → v j ≡ w j) → response n v ≡ response n w
response_same zero v w h = response_none v ∙ sym (response_none w)
response_same (suc n) v w h =
    response_more n v ∙ ap₂ (λ p c. 2 * p + bit c) (response_same n v w (λ j l. h j (omega arith))) (h n (omega arith)) ∙ sym (response_more n w)

coefficient_half : (p i : ℕ) → coefficient p (suc i) ≡ coefficient (p / 2) i
coefficient_half p i =
    let n : 1 + i ≡ suc i = omega arith in
    ap (λ x. x % 2) (sym (shr-shr p 1 i ∙ ap (λ x. p / 2 ^ x) n))

one_bit : (c : ℕ) → c < 2 → bit (eqb c 1) ≡ c
one_bit = by_digit (λ c. bit (eqb c 1) ≡ c) refl refl

-- a polynomial below x^n is the response of its coefficients
pub response_of : (n p : ℕ) → p < 2 ^ n → response n (λ j. eqb (coefficient p (n - 1 - j)) 1) ≡ p
response_of zero p h = response_none (λ j. eqb (coefficient p (0 - 1 - j)) 1) ∙ omega arith
response_of (suc n) p h =
    let w : ℕ → Bool = λ j. eqb (coefficient p (suc n - 1 - j)) 1 in
    let v : ℕ → Bool = λ j. eqb (coefficient (p / 2) (n - 1 - j)) 1 in
    let same : response n w ≡ response n v =
    response_same n w v (λ j l. let e : suc n - 1 - j ≡ suc (n - 1 - j) = omega arith in
    ap (λ x. eqb (coefficient p x) 1) e ∙ ap (λ x. eqb x 1) (coefficient_half p (n - 1 - j))) in
    let z : suc n - 1 - n ≡ 0 = omega arith in
    let last : bit (w n) ≡ p % 2 = ap (λ x. bit (eqb (coefficient p x) 1)) z ∙ one_bit (coefficient p 0) (omega arith) ∙ omega arith in
    let ih = response_of n (p / 2) (omega arith) in
    response_more n w ∙ ap₂ (λ x y. 2 * x + y) (same ∙ ih) last ∙ omega arith
