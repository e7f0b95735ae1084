-- Degrees: of a product, of a code, and how they order codes.
use Rattle.std.proofs.Common.{◌≡◌, ℕ, zero, suc, ◌+◌, ◌-◌, ◌*◌, ◌/◌, ◌%◌, ◌^◌, ◌<◌, ◌≤◌, sym, refl, ap, ◌∙◌, subst, suc-add, zero-add, arith, pow_pos, pow_mono}
use Rattle.std.proofs.Math.Decide.{dec_lt}
use Rattle.std.proofs.Math.Arith.{bin_ind}
use Rattle.gf2.specs.Polynomials.{horner, times, degree}
use Rattle.gf2.proofs.Horner.{horner_suc}
use Rattle.gf2.proofs.Times.{times_step, times_one}
use Rattle.gf2.proofs.Sums.{Degree, digit_mul_le, degree_xor}

degree_zero : (a : ℕ) → Degree a 0 → a ≡ 1
degree_zero a h = omega arith

pow_le_add : (j k : ℕ) → 2 ^ k ≤ 2 ^ (j + k)
pow_le_add j k = pow_mono (omega arith)

-- the degree of a product is the sum of the degrees
pub times_degree : (j : ℕ) (a k f : ℕ) → Degree a j → Degree f k → Degree (times a f) (j + k)
times_degree zero a k f h g = rw (degree_zero a h, times_one, zero-add) g
times_degree (suc j) a k f h g =
    let ih = times_degree j (a / 2) k f (omega arith) g in
    let low : (a % 2) * f < 2 ^ suc (j + k) = omega (arith, digit_mul_le (a % 2) f (omega arith), pow_le_add j k) in
    let d : Degree (2 * times (a / 2) f) (suc (j + k)) = omega (arith, ih) in
    rw (times_step, suc-add) (degree_xor (2 * times (a / 2) f) ((a % 2) * f) (suc (j + k)) d low)

-- each number but 0 has a degree
pub degree_of_lem : (a : ℕ) → 0 < a → (k : ℕ) × Degree a k
degree_of_lem =
    bin_ind (λ n. 0 < n → (k : ℕ) × Degree n k) (λ h. absurd (omega arith)) (λ n ih. by n ih (dec_lt 1 n))
  where
    by : (n : ℕ) → (0 < n / 2 → (k : ℕ) × Degree (n / 2) k) → Dec (1 < n) → 0 < n → (k : ℕ) × Degree n k
    by n ih (yes l) h = let d = ih (omega arith) in (suc d.0, omega (arith, d.1))
    by n ih (no l) h = (0, omega arith)

pub pow_le_of : (j k : ℕ) → 2 ^ j < 2 * 2 ^ k → j ≤ k
pow_le_of j k h = by (dec_lt k j)
  where
    by : Dec (k < j) → j ≤ k
    by (yes l) = let p : 2 ^ suc k ≤ 2 ^ j = pow_mono l in absurd (omega arith)
    by (no l) = omega arith

-- a multiple of f, but for 0, is not below 2^k
pub times_big : (a f k : ℕ) → 0 < a → Degree f k → 2 ^ k ≤ times a f
times_big a f k h g =
    let d = degree_of_lem a h in
    omega (arith, times_degree d.0 a k f d.1 g, pow_le_add d.0 k)

size_one : horner 0 (λ n c. n + 1) 1 ≡ 1
unfolding horner
size_one = refl

size_is : (k f : ℕ) → Degree f k → horner 0 (λ n c. n + 1) f ≡ k + 1
size_is k zero d = absurd (omega (arith, pow_pos k))
size_is zero (suc f) d = let e : suc f ≡ 1 = omega arith in rw e size_one
size_is (suc k) (suc f) d = horner_suc 0 (λ n c. n + 1) f ∙ ap (λ x. x + 1) (size_is k (suc f / 2) (omega arith)) ∙ omega arith

pub degree_is : (f k : ℕ) → Degree f k → degree f ≡ k
unfolding degree
degree_is f k d = ap (λ x. x - 1) (size_is k f d) ∙ omega arith

pub degree_at : (f : ℕ) → 0 < f → Degree f (degree f)
degree_at f h = let d = degree_of_lem f h in subst (Degree f) (sym (degree_is f d.0 d.1)) d.1

-- codes from 2 up have a degree of at least 1
pub degree_one : (f : ℕ) → 2 ≤ f → 1 ≤ degree f
degree_one f h = by (degree f) (degree_at f (omega arith))
  where
    by : (k : ℕ) → Degree f k → 1 ≤ k
    by zero d = absurd (omega arith)
    by (suc k) d = omega arith

pub one_degree : (f : ℕ) → 1 ≤ degree f → 2 ≤ f
unfolding degree
one_degree zero h = absurd (omega arith)
one_degree (suc zero) h = absurd (omega arith)
one_degree (suc (suc f)) h = omega arith

-- ---- degrees and orders of codes

pub degree_reach : (f k : ℕ) → 0 < f → k ≤ degree f → 2 ^ k ≤ f
degree_reach f k h l = let p : 2 ^ k ≤ 2 ^ degree f = pow_mono l in omega (arith, degree_at f h)

pub reach_degree : (f k : ℕ) → 0 < f → 2 ^ k ≤ f → k ≤ degree f
reach_degree f k h l = pow_le_of k (degree f) (omega (arith, degree_at f h))

pub degree_below : (f k : ℕ) → 0 < f → degree f ≤ k → f < 2 * 2 ^ k
degree_below f k h l = let p : 2 ^ degree f ≤ 2 ^ k = pow_mono l in omega (arith, degree_at f h)

pub below_degree : (f k : ℕ) → 0 < f → f < 2 * 2 ^ k → degree f ≤ k
below_degree f k h l = pow_le_of (degree f) k (omega (arith, degree_at f h))

pub product_degree : (a b : ℕ) → 0 < a → 0 < b → degree (times a b) ≡ degree a + degree b
product_degree a b h k = degree_is (times a b) (degree a + degree b) (times_degree (degree a) a (degree b) b (degree_at a h) (degree_at b k))

pub degree_none : degree 0 ≡ 0
unfolding degree
degree_none = refl
