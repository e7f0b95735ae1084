-- The product as a sum: a word for each power of x that the first factor has.
use Rattle.std.proofs.Common.{◌≡◌, ℕ, ◌+◌, ◌*◌, ◌/◌, ◌%◌, ◌^◌, ◌<◌, sym, ap, ◌∙◌, ap₂, one-mul, zero-mul, mul_comm, mod-eq_of_lt, arith, pow_pos}
use Rattle.std.proofs.lemmas.Nat.{mod_below, mod-pow-add, mul-lt, one_shl}
use Rattle.std.proofs.lemmas.Nat.Bits.{and_pow}
use Rattle.std.specs.Int.Bits.{bit_xor, bit_and, xor_comm, xor_shifted}
use Rattle.gf2.specs.Polynomials.{times}
use Rattle.gf2.proofs.Sums.{by_digit}
use Rattle.gf2.proofs.Times.{times_zero, times_xor_l}
use Rattle.gf2.proofs.Shifts.{times_power}

-- a digit c of weight 2^n
times_picked : (c n b : ℕ) → c < 2 → times (c * 2 ^ n) b ≡ c * 2 ^ n * b
times_picked c n b =
    let none : 0 * 2 ^ n ≡ 0 = zero-mul (2 ^ n) in
    let one : 1 * 2 ^ n ≡ 2 ^ n = one-mul (2 ^ n) in
    by_digit (λ c. times (c * 2 ^ n) b ≡ c * 2 ^ n * b) (rw none (times_zero b ∙ sym (zero-mul b))) (rw one (times_power b n ∙ mul_comm b (2 ^ n))) c

-- one digit more, from the lowest up
pub times_power_turn : (a n b t d e : ℕ) → n < 32 → t ≡ times (a % 2 ^ n) b → d ≡ bit_and a (1 * 2 ^ n % 2 ^ 32) → e ≡ b
    → bit_xor t (d * e) ≡ times (a % 2 ^ (n + 1)) b
times_power_turn a n b t d e within is digit same =
    let c = a / 2 ^ n % 2 in
    let low = a % 2 ^ n in
    let up : n + 1 ≡ 1 + n = omega arith in
    let split : a % 2 ^ (n + 1) ≡ bit_xor (c * 2 ^ n) low =
    ap (λ m. a % 2 ^ m) up ∙ mod-pow-add a 1 n ∙ sym (xor_shifted c n low (mod_below a (2 ^ n) (pow_pos n))) in
    let picked : d * e ≡ times (c * 2 ^ n) b = ap₂ (λ x y. x * y) (digit ∙ ap (bit_and a) (one_shl n 32 within) ∙ and_pow a n) same ∙ sym (times_picked c n b (omega arith)) in
    ap₂ bit_xor is picked ∙ xor_comm (times low b) (times (c * 2 ^ n) b) ∙ sym (ap (λ x. times x b) split ∙ times_xor_l (c * 2 ^ n) low b)

pub word_fits : (d e : ℕ) → d < 2 ^ 32 → e < 2 ^ 32 → d * e < 2 ^ 64
word_fits d e low small = mul-lt d e (2 ^ 32) (2 ^ 32) low small

pub times_none_yet : (a b : ℕ) → times (a % 2 ^ 0) b ≡ 0
times_none_yet a b = let none : a % 2 ^ 0 ≡ 0 = omega arith in rw none (times_zero b)

pub times_whole : (a n b : ℕ) → a < n → times (a % n) b ≡ times a b
times_whole a n b small = ap (λ x. times x b) (mod-eq_of_lt small)
