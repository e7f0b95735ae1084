-- Quotient and remainder are unique, `residue` is the remainder, and what it has to do with `Divides`.
use Rattle.std.proofs.Common.{◌≡◌, ℕ, zero, suc, ◌+◌, ◌*◌, ◌/◌, ◌%◌, ◌^◌, ◌<◌, ◌≤◌, ◌↔◌, sym, refl, ap, ◌∙◌, subst, ap₂, add-zero, one-mul, zero-mul, arith, pow_pos}
use Rattle.std.proofs.Math.Nat.{div-eq_of_lt, min-eq_left, min-eq_right, zero-min}
use Rattle.std.proofs.Math.Decide.{dec_lt}
use Rattle.std.proofs.Math.Arith.{bin_ind}
use Rattle.std.specs.Int.Bits.{bit_xor, xor_assoc, xor_comm, xor_self, xor_zero_r, xor_lt}
use Rattle.gf2.specs.Polynomials.{times, Divides, Division, clocked, residue}
use Rattle.gf2.proofs.Sums.{Degree, carry_below, carry_fits, top_of, xors, xor_eq_zero, xor_move, double_xor, xor_digit, xor_swap, degree_xor, degrees_xor}
use Rattle.gf2.proofs.Horner.{horner_step}
use Rattle.gf2.proofs.Times.{times_odd, times_double, times_zero, times_xor_l}
use Rattle.gf2.proofs.Degrees.{times_big, degree_is}

-- a division with the divisor's degree at hand, as the proofs use it
abbrev pub DivisionAt : ℕ → ℕ → ℕ → ℕ → ℕ → Type 0
DivisionAt k p f q r = (p ≡ bit_xor (times q f) r) × (r < 2 ^ k)

pub division_of : (k p f q r : ℕ) → Degree f k → DivisionAt k p f q r → Division p f q r
division_of k p f q r d a = record { whole = a.0; rest = subst (λ j. r < 2 ^ j) (sym (degree_is f k d)) a.1 }

pub of_division : (k p f q r : ℕ) → Degree f k → Division p f q r → DivisionAt k p f q r
of_division k p f q r d a = (a.whole, subst (λ j. r < 2 ^ j) (degree_is f k d) a.rest)

-- a number below 2^k that f divides is 0, and so is the quotient
pub small_multiple : (q f k : ℕ) → Degree f k → times q f < 2 ^ k → q ≡ 0
small_multiple zero f k d l = refl
small_multiple (suc q) f k d l = absurd (omega (arith, times_big (suc q) f k (omega arith) d))

pub unique : (k p f q r q' r' : ℕ) → Degree f k → DivisionAt k p f q r → DivisionAt k p f q' r' → (q ≡ q') × (r ≡ r')
unique k p f q r q' r' d a b = (same_q, same_r)
  where
    apart : times (bit_xor q q') f ≡ bit_xor r r'
    apart =
        times_xor_l q q' f
        ∙ ap₂ bit_xor (sym (xor_move p r (times q f) (a.0 ∙ xor_comm (times q f) r))) (sym (xor_move p r' (times q' f) (b.0 ∙ xor_comm (times q' f) r')))
        ∙ simp xors

    same_q : q ≡ q'
    same_q = xor_eq_zero q q' (small_multiple (bit_xor q q') f k d (rw apart (xor_lt k r r' a.1 b.1)))

    same_r : r ≡ r'
    same_r = sym (xor_move p (times q f) r a.0) ∙ ap (λ x. bit_xor p (times x f)) same_q ∙ xor_move p (times q' f) r' b.0

-- ---- the residue

-- the digits of p from the highest down: one clock for each
pub residue_step : (f p : ℕ) → residue f p ≡ clocked f (residue f (p / 2)) (p % 2)
unfolding residue
residue_step f p = horner_step 0 (clocked f) (zero-min f) p

pub residue_zero : (f : ℕ) → residue f 0 ≡ 0
unfolding residue
residue_zero f = refl

-- x·p + c
pub residue_more : (f p c : ℕ) → c < 2 → residue f (2 * p + c) ≡ clocked f (residue f p) c
residue_more f p c h =
    let a : (2 * p + c) / 2 ≡ p = omega arith in
    let b : (2 * p + c) % 2 ≡ c = omega arith in
    residue_step f (2 * p + c) ∙ ap₂ (λ x y. clocked f (residue f x) y) a b

module _ (k f : ℕ) (d : Degree f k) where
  -- one clock: f is added where x·r + c reaches 2^k
  pub clocked_low : (r c : ℕ) → 2 * r + c < 2 ^ k → clocked f r c ≡ 2 * r + c
  unfolding clocked
  clocked_low r c l = min-eq_left (omega (arith, rw xor_comm at (degree_xor f (2 * r + c) k d l)))

  pub clocked_high : (r c : ℕ) → r < 2 ^ k → c < 2 → 2 ^ k ≤ 2 * r + c → clocked f r c ≡ bit_xor (2 * r + c) f
  unfolding clocked
  clocked_high r c l h g = min-eq_right (omega (arith, degrees_xor (2 * r + c) f k (omega arith) d))

  double_division : (p q r c : ℕ) → c < 2 → p ≡ bit_xor (times q f) r → 2 * p + c ≡ bit_xor (times (2 * q) f) (2 * r + c)
  double_division p q r c h e =
      sym (xor_digit p c h)
      ∙ ap (λ x. bit_xor x c) (ap (λ x. 2 * x) e ∙ double_xor (times q f) r ∙ ap (λ x. bit_xor x (2 * r)) (sym (times_double q f)))
      ∙ xor_assoc (times (2 * q) f) (2 * r) c
      ∙ ap (bit_xor (times (2 * q) f)) (xor_digit r c h)

  pub division_zero : DivisionAt k 0 f 0 0
  division_zero = (sym (simp (times_zero, xor_self)), pow_pos k)

  pub division_low : (p q r c : ℕ) → c < 2 → DivisionAt k p f q r → 2 * r + c < 2 ^ k → DivisionAt k (2 * p + c) f (2 * q) (2 * r + c)
  division_low p q r c h a l = (double_division p q r c h a.0, l)

  pub division_high : (p q r c : ℕ) → c < 2 → DivisionAt k p f q r → 2 ^ k ≤ 2 * r + c → DivisionAt k (2 * p + c) f (2 * q + 1) (bit_xor (2 * r + c) f)
  division_high p q r c h a l = (
    double_division p q r c h a.0
        ∙ sym (ap (λ x. bit_xor x (bit_xor (2 * r + c) f)) (times_odd q f) ∙ simp xors),
    degrees_xor (2 * r + c) f k (omega arith) d,
  )

  -- one clock without a test: what stands at x^k says whether f is taken off
  clocked_carry : (r c : ℕ) → r < 2 ^ k → c < 2 → clocked f r c ≡ bit_xor (2 * r + c) ((2 * r + c) / 2 ^ k * f)
  clocked_carry r c l h = by (dec_lt (2 * r + c) (2 ^ k))
    where
      by : Dec (2 * r + c < 2 ^ k) → clocked f r c ≡ bit_xor (2 * r + c) ((2 * r + c) / 2 ^ k * f)
      by (yes m) = rw (div-eq_of_lt m, zero-mul, xor_zero_r) (clocked_low r c m)
      by (no m) = rw (top_of (2 * r + c) k (omega arith), one-mul) (clocked_high r c l h (omega arith))

  -- and one digit more of a division
  pub division_carry : (p q r c : ℕ) → c < 2 → DivisionAt k p f q r → DivisionAt k (2 * p + c) f (2 * q + (2 * r + c) / 2 ^ k) (bit_xor (2 * r + c) ((2 * r + c) / 2 ^ k * f))
  division_carry p q r c h a = by (dec_lt (2 * r + c) (2 ^ k))
    where
      by : Dec (2 * r + c < 2 ^ k) → DivisionAt k (2 * p + c) f (2 * q + (2 * r + c) / 2 ^ k) (bit_xor (2 * r + c) ((2 * r + c) / 2 ^ k * f))
      by (yes l) = rw (div-eq_of_lt l, zero-mul, xor_zero_r, add-zero) (division_low p q r c h a l)
      by (no l) = rw (top_of (2 * r + c) k (omega arith), one-mul) (division_high p q r c h a (omega arith))

  pub residue_division : (p : ℕ) → (q : ℕ) × DivisionAt k p f q (residue f p)
  residue_division =
      bin_ind (λ p. (q : ℕ) × DivisionAt k p f q (residue f p)) (0, rw residue_zero division_zero)
      (λ p ih.
      let e : 2 * (p / 2) + p % 2 ≡ p = omega arith in
      subst (λ x. (q : ℕ) × DivisionAt k x f q (residue f x)) e
      (rw (residue_more f (p / 2) (p % 2) (omega arith), clocked_carry (residue f (p / 2)) (p % 2) ih.1.1 (omega arith)) (_, division_carry (p / 2) ih.0 (residue f (p / 2)) (p % 2) (omega arith) ih.1)))

  pub residue_below : (p : ℕ) → residue f p < 2 ^ k
  residue_below p = (residue_division p).1.1

  -- any division gives the residue
  pub residue_is : (p q r : ℕ) → DivisionAt k p f q r → residue f p ≡ r
  residue_is p q r a = let b = residue_division p in (unique k p f b.0 (residue f p) q r d b.1 a).1

  pub residue_xor : (a b : ℕ) → residue f (bit_xor a b) ≡ bit_xor (residue f a) (residue f b)
  residue_xor a b =
      let x = residue_division a in
      let y = residue_division b in
      residue_is (bit_xor a b) (bit_xor x.0 y.0) (bit_xor (residue f a) (residue f b)) (
        ap₂ bit_xor x.1.0 y.1.0 ∙ xor_swap (times x.0 f) (residue f a) (times y.0 f) (residue f b)
            ∙ ap (λ z. bit_xor z (bit_xor (residue f a) (residue f b))) (sym (times_xor_l x.0 y.0 f)),
        xor_lt k (residue f a) (residue f b) x.1.1 y.1.1,
      )

  pub residue_divides : (p : ℕ) → (residue f p ≡ 0) ↔ Divides f p
  residue_divides p = (
    λ e. let x = residue_division p in (x.0, sym (x.1.0 ∙ ap (bit_xor (times x.0 f)) e ∙ xor_zero_r (times x.0 f))),
    λ h. residue_is p h.0 0 (sym (xor_zero_r (times h.0 f) ∙ h.1), pow_pos k),
  )

  pub residues_equal : (a b : ℕ) → (residue f a ≡ residue f b) ↔ Divides f (bit_xor a b)
  residues_equal a b = (
    λ e. (residue_divides (bit_xor a b)).0 (residue_xor a b ∙ ap (λ x. bit_xor x (residue f b)) e ∙ xor_self (residue f b)),
    λ h. xor_eq_zero (residue f a) (residue f b) (sym (residue_xor a b) ∙ (residue_divides (bit_xor a b)).1 h),
  )

  pub residue_small : (r : ℕ) → r < 2 ^ k → residue f r ≡ r
  residue_small r h = residue_is r 0 r (sym (ap (λ x. bit_xor x r) (times_zero f)), h)

  -- one clock is the remainder of x·r + c
  pub clocked_is : (r c : ℕ) → r < 2 ^ k → c < 2 → clocked f r c ≡ residue f (2 * r + c)
  clocked_is r c h l = ap (λ x. clocked f x c) (sym (residue_small r h)) ∙ sym (residue_more f r c l)

  -- what is left may be taken before the clock
  pub residue_again : (p c : ℕ) → c < 2 → residue f (2 * residue f p + c) ≡ residue f (2 * p + c)
  residue_again p c l = sym (clocked_is (residue f p) c (residue_below p) l) ∙ sym (residue_more f p c l)

  -- one step is enough below 2^(k+1)
  pub carry_taken : (p : ℕ) → p / 2 ^ k < 2 → bit_xor p (p / 2 ^ k * f) ≡ residue f p
  carry_taken p h =
      let low : p / 2 < 2 ^ k = omega (arith, carry_fits k p h) in
      let e : 2 * (p / 2) + p % 2 ≡ p = omega arith in
      sym (residue_step f p ∙ ap (λ r. clocked f r (p % 2)) (residue_small (p / 2) low) ∙ clocked_carry (p / 2) (p % 2) low (omega arith) ∙ ap (λ t. bit_xor t (t / 2 ^ k * f)) e)

  -- a division goes on with what it has left
  pub division_more : (p q r c e s : ℕ) → c < 2 → DivisionAt k p f q r → DivisionAt k (2 * r + c) f e s → DivisionAt k (2 * p + c) f (2 * q + e) s × (e < 2)
  division_more p q r c e s h a b =
      let t = 2 * r + c in
      let own : DivisionAt k r f 0 r = (sym (ap (λ x. bit_xor x r) (times_zero f)), a.1) in
      let same = unique k t f e s (2 * 0 + t / 2 ^ k) (bit_xor t (t / 2 ^ k * f)) d b (division_carry r 0 r c h own) in
      let digit : e ≡ t / 2 ^ k = omega (arith, same.0) in
      (rw (digit, same.1) (division_carry p q r c h a), omega (arith, carry_below k t (omega (arith, a.1))))
