-- One binary digit more, as the loops from the highest digit down take it.
use Rattle.std.proofs.Common.{◌≡◌, ℕ, suc, ◌+◌, ◌-◌, ◌*◌, ◌/◌, ◌%◌, ◌^◌, ◌<◌, ◌≤◌, sym, ap, ◌∙◌, subst, ap₂, arith, pow_mono, shr-shr}
use Rattle.std.proofs.Math.Nat.{div-eq_of_lt}
use Rattle.std.specs.Int.Bits.{bit_xor, bit_and, and_mask, xor_lt}
use Rattle.gf2.specs.Polynomials.{times, Division}
use Rattle.gf2.proofs.Sums.{Degree, digit_mul_le, carry_below}
use Rattle.gf2.proofs.Times.{times_step, times_zero}
use Rattle.gf2.proofs.Remainders.{DivisionAt, division_of, of_division, division_carry}

pub digit_is : (n : ℕ) → bit_and n 1 ≡ n % 2
digit_is n = and_mask n 1

pub digit_below : (n : ℕ) → bit_and n 1 < 2
digit_below n = omega (arith, digit_is n)

-- the digits of p from the j-th on, and those above it
front_half : (p j : ℕ) → p / 2 ^ j / 2 ≡ p / 2 ^ (j + 1)
front_half p j = shr-shr p j 1

pub digit_split : (p j : ℕ) → 2 * (p / 2 ^ (j + 1)) + bit_and (p / 2 ^ j) 1 ≡ p / 2 ^ j
digit_split p j = omega (arith, front_half p j, digit_is (p / 2 ^ j))

-- a turn of the product, from the highest digit down
pub times_digit : (a j b t : ℕ) → t ≡ times (a / 2 ^ (j + 1)) b → bit_xor (2 * t) (bit_and (a / 2 ^ j) 1 * b) ≡ times (a / 2 ^ j) b
times_digit a j b t e =
    ap₂ (λ x y. bit_xor (2 * x) (y * b)) (e ∙ ap (λ n. times n b) (sym (front_half a j))) (digit_is (a / 2 ^ j)) ∙ sym (times_step (a / 2 ^ j) b)

pub times_turn : (a n b t d e : ℕ) → 0 < n → t ≡ times (a / 2 ^ n) b → d ≡ bit_and (a / 2 ^ (n - 1)) 1 → e ≡ b
    → bit_xor (2 * t) (d * e) ≡ times (a / 2 ^ (n - 1)) b
times_turn a n b t d e some is digit same =
    let up : n ≡ n - 1 + 1 = omega arith in
    rw (digit, same) (times_digit a (n - 1) b t (is ∙ ap (λ m. times (a / 2 ^ m) b) up))

pub times_fits : (a n b t d e : ℕ) → 0 < n → n ≤ 32 → t < 2 ^ (64 - n) → d ≡ bit_and (a / 2 ^ (n - 1)) 1 → e < 2 ^ 32
    → bit_xor (2 * t) (d * e) < 2 ^ (64 - (n - 1))
times_fits a n b t d e some most low digit small =
    let more : 64 - (n - 1) ≡ suc (64 - n) = omega arith in
    let few : 32 ≤ 64 - (n - 1) = omega arith in
    let wide : 2 ^ 32 ≤ 2 ^ (64 - (n - 1)) = pow_mono few in
    xor_lt (64 - (n - 1)) (2 * t) (d * e) (rw more (omega arith)) (omega (arith, digit_mul_le d e (rw digit (digit_below (a / 2 ^ (n - 1))))))

pub times_none : (a n b : ℕ) → a < n → times (a / n) b ≡ 0
times_none a n b small = ap (λ x. times x b) (div-eq_of_lt small) ∙ times_zero b

pub division_digit : (k f p j q r : ℕ) → Degree f k → DivisionAt k (p / 2 ^ (j + 1)) f q r
    → DivisionAt k (p / 2 ^ j) f (2 * q + (2 * r + bit_and (p / 2 ^ j) 1) / 2 ^ k) (bit_xor (2 * r + bit_and (p / 2 ^ j) 1) ((2 * r + bit_and (p / 2 ^ j) 1) / 2 ^ k * f))
division_digit k f p j q r d a =
    let c = bit_and (p / 2 ^ j) 1 in
    let t = 2 * r + c in
    subst (λ n. DivisionAt k n f (2 * q + t / 2 ^ k) (bit_xor t (t / 2 ^ k * f))) (digit_split p j) (division_carry k f d (p / 2 ^ (j + 1)) q r c (digit_below (p / 2 ^ j)) a)

-- a turn of the long division of the highest digits of 64
pub division_turn : (k f p n q r : ℕ) → Degree f k → k ≤ 24 → n < 64 → Division (p / 2 ^ (64 - n)) f q r → q < 2 ^ n
    → let t : ℕ = 2 * r + bit_and (p / 2 ^ (63 - n)) 1 in
    Division (p / 2 ^ (64 - (n + 1))) f (2 * q + t / 2 ^ k) (bit_xor t (t / 2 ^ k * f)) × (2 * q + t / 2 ^ k < 2 ^ (n + 1)) × (bit_xor t (t / 2 ^ k * f) < 2 ^ 24)
division_turn k f p n q r d small l a h =
    let t = 2 * r + bit_and (p / 2 ^ (63 - n)) 1 in
    let above : 64 - n ≡ 63 - n + 1 = omega arith in
    let here : 63 - n ≡ 64 - (n + 1) = omega arith in
    let more : n + 1 ≡ suc n = omega arith in
    let was = of_division k (p / 2 ^ (64 - n)) f q r d a in
    let carry = carry_below k t (omega (arith, was.1, digit_below (p / 2 ^ (63 - n)))) in
    let is = division_digit k f p (63 - n) q r d (subst (λ m. DivisionAt k (p / 2 ^ m) f q r) above was) in
    let wide : 2 ^ k ≤ 2 ^ 24 = pow_mono small in (
      subst (λ m. Division (p / 2 ^ m) f (2 * q + t / 2 ^ k) (bit_xor t (t / 2 ^ k * f))) here (division_of k (p / 2 ^ (63 - n)) f (2 * q + t / 2 ^ k) (bit_xor t (t / 2 ^ k * f)) d is),
      rw more (omega arith),
      omega (arith, is.1),
    )
