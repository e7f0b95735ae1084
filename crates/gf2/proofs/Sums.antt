-- Laws of the sum of polynomials, `bit_xor`, beside those of the library.
use Rattle.std.proofs.Common.{◌≡◌, ℕ, zero, suc, ◌+◌, ◌*◌, ◌/◌, ◌^◌, ◌<◌, ◌≤◌, sym, ap, ◌∙◌, ap₂, one-mul, zero-mul, arith, pow_pos}
use Rattle.std.proofs.Math.Nat.{div-eq_of_lt, div-eq_of_lt-le, div-lt_iff_lt-mul}
use Rattle.std.specs.Int.Bits.{bit_xor, xor_block, xor_shifted, xor_assoc, xor_comm, xor_self, xor_zero_r, xor_shr}
use Rattle.std.proofs.lemmas.Nat.{shr_split, mod_below}

pub xor_left_comm : (a b c : ℕ) → bit_xor a (bit_xor b c) ≡ bit_xor b (bit_xor a c)
xor_left_comm a b c = sym (xor_assoc a b c) ∙ ap (λ x. bit_xor x c) (xor_comm a b) ∙ xor_assoc b a c

pub xor_cancel : (a b : ℕ) → bit_xor a (bit_xor a b) ≡ b
xor_cancel a b = sym (xor_assoc a a b) ∙ ap (λ x. bit_xor x b) (xor_self a)

pub ruleset xors = (xor_assoc, xor_self, xor_cancel, xor_zero_r, xor_comm, xor_left_comm)

pub xor_eq_zero : (a b : ℕ) → bit_xor a b ≡ 0 → a ≡ b
xor_eq_zero a b e = sym (xor_zero_r a) ∙ ap (bit_xor a) (sym e) ∙ xor_cancel a b

-- a sum moved to the other side
pub xor_move : (a b c : ℕ) → a ≡ bit_xor b c → bit_xor a b ≡ c
xor_move a b c e = ap (λ x. bit_xor x b) e ∙ simp xors

pub double_xor : (a b : ℕ) → 2 * bit_xor a b ≡ bit_xor (2 * a) (2 * b)
double_xor a b =
    let e = xor_block 1 a b 0 0 (omega arith) (omega arith) in
    let p : a * 2 + 0 ≡ 2 * a = omega arith in
    let q : b * 2 + 0 ≡ 2 * b = omega arith in
    let l : bit_xor a b * 2 + 0 ≡ 2 * bit_xor a b = omega arith in
    sym l ∙ sym e ∙ ap₂ bit_xor p q

pub xor_digit : (a c : ℕ) → c < 2 → bit_xor (2 * a) c ≡ 2 * a + c
xor_digit a c h =
    let p : a * 2 ≡ 2 * a = omega arith in
    ap (λ x. bit_xor x c) (sym p) ∙ xor_shifted a 1 c h ∙ ap (λ x. x + c) p

-- a digit is 0 or 1
pub by_digit : (P : ℕ → Type 0) → P 0 → P 1 → (c : ℕ) → c < 2 → P c
by_digit P none one zero h = none
by_digit P none one (suc zero) h = one
by_digit P none one (suc (suc c)) h = absurd (omega arith)

pub digit_mul_xor : (c a b : ℕ) → c < 2 → c * bit_xor a b ≡ bit_xor (c * a) (c * b)
digit_mul_xor c a b = by_digit (λ c. c * bit_xor a b ≡ bit_xor (c * a) (c * b)) (simp zero-mul) (simp one-mul) c

pub digit_xor_mul : (c d a : ℕ) → c < 2 → d < 2 → bit_xor c d * a ≡ bit_xor (c * a) (d * a)
digit_xor_mul c d a h =
    by_digit (λ d. bit_xor c d * a ≡ bit_xor (c * a) (d * a)) (simp (zero-mul, xor_zero_r))
    (by_digit (λ c. bit_xor c 1 * a ≡ bit_xor (c * a) (1 * a)) (simp zero-mul) (simp (zero-mul, xor_self)) c h)
    d

pub digit_mul_le : (c f : ℕ) → c < 2 → c * f ≤ f
digit_mul_le c f = by_digit (λ c. c * f ≤ f) (omega arith) (omega arith) c

pub xor_swap : (a b c d : ℕ) → bit_xor (bit_xor a b) (bit_xor c d) ≡ bit_xor (bit_xor a c) (bit_xor b d)
xor_swap a b c d = simp xors

-- ---- the highest digit

-- f is not 0, and its degree is k
abbrev pub Degree : ℕ → ℕ → Type 0
Degree f k = (2 ^ k ≤ f) × (f < 2 * 2 ^ k)

-- of the degree n, by a quotient
pub top_of : (x n : ℕ) → Degree x n → x / 2 ^ n ≡ 1
top_of x n h = div-eq_of_lt-le (2 ^ n) (omega arith) (omega arith)

pub of_top : (x n : ℕ) → x / 2 ^ n ≡ 1 → Degree x n
of_top x n e =
    let split = rw e at (shr_split x n) in
    let rest = mod_below x (2 ^ n) (pow_pos n) in
    omega arith

-- no digit from x^n on
pub shr_zero : (x n : ℕ) → x / 2 ^ n ≡ 0 → x < 2 ^ n
shr_zero x n e = let below : x < 1 * 2 ^ n = (div-lt_iff_lt-mul (pow_pos n)).0 (omega arith) in omega arith

pub degree_xor : (x y n : ℕ) → Degree x n → y < 2 ^ n → Degree (bit_xor x y) n
degree_xor x y n h k = of_top (bit_xor x y) n (xor_shr x y n ∙ ap₂ bit_xor (top_of x n h) (div-eq_of_lt k))

pub degrees_xor : (x y n : ℕ) → Degree x n → Degree y n → bit_xor x y < 2 ^ n
degrees_xor x y n h k =
    let e : bit_xor x y / 2 ^ n ≡ 0 = xor_shr x y n ∙ ap₂ bit_xor (top_of x n h) (top_of y n k) in
    shr_zero (bit_xor x y) n e

-- what stands at x^n, below 2^(n+1)
pub carry_below : (n x : ℕ) → x < 2 * 2 ^ n → x / 2 ^ n < 2
carry_below n x h = (div-lt_iff_lt-mul (pow_pos n)).1 h

pub carry_fits : (n x : ℕ) → x / 2 ^ n < 2 → x < 2 * 2 ^ n
carry_fits n x h = (div-lt_iff_lt-mul (pow_pos n)).0 h
