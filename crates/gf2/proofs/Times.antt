-- The laws of the product.
use Rattle.std.proofs.Common.{◌≡◌, ℕ, zero, suc, ◌+◌, ◌*◌, ◌/◌, ◌%◌, ◌^◌, ◌<◌, sym, refl, ap, ◌∙◌, ap₂, one-mul, pow-suc, mul-zero, zero-mul, mul-one, arith}
use Rattle.std.proofs.Math.Arith.{bin_ind}
use Rattle.std.specs.Int.Bits.{bit_xor, xor_shr, xor_mod}
use Rattle.gf2.specs.Polynomials.{times}
use Rattle.gf2.proofs.Horner.{horner_step}
use Rattle.gf2.proofs.Sums.{by_digit, double_xor, xor_digit, digit_mul_xor, digit_xor_mul, xor_swap}

pub times_step : (a b : ℕ) → times a b ≡ bit_xor (2 * times (a / 2) b) ((a % 2) * b)
unfolding times
times_step a b = horner_step 0 (λ t c. bit_xor (2 * t) (c * b)) (simp zero-mul) a

-- (x·a + c)·b is x·(a·b) + c·b
pub times_more : (a c b : ℕ) → c < 2 → times (2 * a + c) b ≡ bit_xor (2 * times a b) (c * b)
times_more a c b h =
    let p : (2 * a + c) / 2 ≡ a = omega arith in
    let q : (2 * a + c) % 2 ≡ c = omega arith in
    times_step (2 * a + c) b ∙ ap₂ (λ x y. bit_xor (2 * times x b) (y * b)) p q

pub times_zero : (b : ℕ) → times 0 b ≡ 0
unfolding times
times_zero b = refl

pub times_one : (b : ℕ) → times 1 b ≡ b
times_one b = times_more 0 1 b (omega arith) ∙ ap (λ x. bit_xor (2 * x) (1 * b)) (times_zero b) ∙ one-mul b

pub times_xor_l : (a b c : ℕ) → times (bit_xor a b) c ≡ bit_xor (times a c) (times b c)
times_xor_l a b c =
    bin_ind (λ n. (m : ℕ) → times (bit_xor n m) c ≡ bit_xor (times n c) (times m c))
    (λ m. sym (ap (λ x. bit_xor x (times m c)) (times_zero c)))
    (λ n ih m.
    times_step (bit_xor n m) c
    ∙ ap₂ (λ x y. bit_xor (2 * times x c) (y * c)) (xor_shr n m 1) (xor_mod n m 1)
    ∙ ap₂ bit_xor (ap (λ x. 2 * x) (ih (m / 2)) ∙ double_xor (times (n / 2) c) (times (m / 2) c)) (digit_xor_mul (n % 2) (m % 2) c (omega arith) (omega arith))
    ∙ xor_swap (2 * times (n / 2) c) (2 * times (m / 2) c) ((n % 2) * c) ((m % 2) * c)
    ∙ sym (ap₂ bit_xor (times_step n c) (times_step m c)))
    a b

pub times_xor_r : (a b c : ℕ) → times a (bit_xor b c) ≡ bit_xor (times a b) (times a c)
times_xor_r a b c =
    bin_ind (λ n. times n (bit_xor b c) ≡ bit_xor (times n b) (times n c)) (simp times_zero)
    (λ n ih.
    times_step n (bit_xor b c)
    ∙ ap₂ bit_xor (ap (λ x. 2 * x) ih ∙ double_xor (times (n / 2) b) (times (n / 2) c)) (digit_mul_xor (n % 2) b c (omega arith))
    ∙ xor_swap (2 * times (n / 2) b) (2 * times (n / 2) c) ((n % 2) * b) ((n % 2) * c)
    ∙ sym (ap₂ bit_xor (times_step n b) (times_step n c)))
    a

pub times_zero_r : (a : ℕ) → times a 0 ≡ 0
times_zero_r = bin_ind (λ n. times n 0 ≡ 0) (times_zero 0) (λ n ih. times_step n 0 ∙ simp (ih, mul-zero))

pub times_one_r : (a : ℕ) → times a 1 ≡ a
times_one_r =
    bin_ind (λ n. times n 1 ≡ n) (times_zero 1)
    (λ n ih. times_step n 1 ∙ ap₂ (λ x y. bit_xor (2 * x) y) ih (mul-one (n % 2)) ∙ xor_digit (n / 2) (n % 2) (omega arith) ∙ omega arith)

-- a·(x·b) is x·(a·b)
pub times_double_r : (a b : ℕ) → times a (2 * b) ≡ 2 * times a b
times_double_r a b =
    bin_ind (λ n. times n (2 * b) ≡ 2 * times n b) (simp times_zero)
    (λ n ih.
    times_step n (2 * b)
    ∙ ap₂ (λ x y. bit_xor (2 * x) y) ih (omega arith)
    ∙ sym (double_xor (2 * times (n / 2) b) ((n % 2) * b))
    ∙ ap (λ x. 2 * x) (sym (times_step n b)))
    a

pub times_digit_r : (a c : ℕ) → c < 2 → times a c ≡ c * a
times_digit_r a c = by_digit (λ c. times a c ≡ c * a) (times_zero_r a ∙ sym (zero-mul a)) (times_one_r a ∙ sym (one-mul a)) c

-- a·(x·b + c) is x·(a·b) + c·a
pub times_more_r : (a b c : ℕ) → c < 2 → times a (2 * b + c) ≡ bit_xor (2 * times a b) (c * a)
times_more_r a b c h =
    ap (times a) (sym (xor_digit b c h)) ∙ times_xor_r a (2 * b) c ∙ ap₂ bit_xor (times_double_r a b) (times_digit_r a c h)

pub times_comm : (a b : ℕ) → times a b ≡ times b a
times_comm a b =
    bin_ind (λ n. times a n ≡ times n a) (times_zero_r a ∙ sym (times_zero a))
    (λ n ih.
    let p : n ≡ 2 * (n / 2) + n % 2 = omega arith in
    ap (times a) p ∙ times_more_r a (n / 2) (n % 2) (omega arith) ∙ ap (λ x. bit_xor (2 * x) ((n % 2) * a)) ih ∙ sym (times_step n a))
    b

pub times_double : (a b : ℕ) → times (2 * a) b ≡ 2 * times a b
times_double a b = times_comm (2 * a) b ∙ times_double_r b a ∙ ap (λ x. 2 * x) (times_comm b a)

pub times_odd : (a b : ℕ) → times (2 * a + 1) b ≡ bit_xor (times (2 * a) b) b
times_odd a b = times_more a 1 b (omega arith) ∙ ap₂ bit_xor (sym (times_double a b)) (one-mul b)

pub times_assoc : (a b c : ℕ) → times (times a b) c ≡ times a (times b c)
times_assoc a b c =
    bin_ind (λ n. times (times n b) c ≡ times n (times b c)) (simp times_zero)
    (λ n ih.
    ap (λ x. times x c) (times_step n b)
    ∙ times_xor_l (2 * times (n / 2) b) ((n % 2) * b) c
    ∙ ap₂ bit_xor (times_double (times (n / 2) b) c ∙ ap (λ x. 2 * x) ih) (scaled (n % 2) (omega arith))
    ∙ sym (times_step n (times b c)))
    a
  where
    scaled : (d : ℕ) → d < 2 → times (d * b) c ≡ d * times b c
    scaled = by_digit (λ d. times (d * b) c ≡ d * times b c) (simp (zero-mul, times_zero)) (simp one-mul)

shift_more : (a k : ℕ) → a * 2 ^ suc k ≡ 2 * (a * 2 ^ k)
shift_more a k = rw pow-suc (omega arith)

pub times_shift : (a k f : ℕ) → times (a * 2 ^ k) f ≡ times a f * 2 ^ k
times_shift a zero f = ap (λ x. times x f) (mul-one a) ∙ sym (mul-one (times a f))
times_shift a (suc k) f =
    ap (λ x. times x f) (shift_more a k) ∙ times_double (a * 2 ^ k) f ∙ ap (λ x. 2 * x) (times_shift a k f) ∙ sym (shift_more (times a f) k)
