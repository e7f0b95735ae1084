-- Trial division: up to half the degree is enough, and of the even divisors x is.
use Rattle.std.proofs.Common.{◌≡◌, ℕ, zero, suc, ◌+◌, ◌*◌, ◌/◌, ◌%◌, ◌^◌, ◌<◌, ◌≤◌, ◌↔◌, sym, refl, ap, ◌∙◌, subst, arith, pow_pos}
use Rattle.std.proofs.Math.Decide.{dec_lt}
use Rattle.gf2.specs.Polynomials.{times, degree, Divides, Reducible, Irreducible, residue}
use Rattle.gf2.specs.Trial.{Tried}
use Rattle.gf2.proofs.Times.{times_zero, times_zero_r, times_one_r, times_double_r, times_comm}
use Rattle.gf2.proofs.Degrees.{degree_at, degree_one, one_degree, degree_below, below_degree, product_degree}
use Rattle.gf2.proofs.Remainders.{residue_divides}

-- a factor of degree i leaves one of degree k - i
cofactor : (q g f : ℕ) → 0 < f → times q g ≡ f → degree f ≡ degree q + degree g
cofactor zero g f h e = absurd (omega (arith, times_zero g))
cofactor (suc q) zero f h e = absurd (omega (arith, times_zero_r (suc q)))
cofactor (suc q) (suc g) f h e = ap degree (sym e) ∙ product_degree (suc q) (suc g) (omega arith) (omega arith)

pub half_is_enough : (m f : ℕ) → m ≡ degree f / 2 → Tried m f ↔ Irreducible f
unfolding Tried
half_is_enough m f half = (
  λ t. (t.0, λ r. by t r (dec_lt m (degree r.0))),
  λ i. (i.0, λ (g, one, most, d). i.1 (g, one, omega (arith, i.0), d)),
)
  where
    -- of two factors one is of degree m at most
    by : Tried m f → (r : Reducible f) → Dec (m < degree r.0) → ⊥
    by t (g, one, less, (q, e)) (no l) = t.1 (g, one, omega arith, (q, e))
    by t (g, one, less, (q, e)) (yes l) =
        let s = cofactor q g f (omega (arith, one_degree f t.0)) e in
        t.1 (q, omega arith, omega arith, (g, times_comm g q ∙ e))

pub none_tried : (m f : ℕ) → f < 2 → Tried m f → ⊥
unfolding Tried
none_tried m f h t = omega (arith, one_degree f t.0)

-- x divides the even codes, and no multiple of x divides another
pub even_tried : (m f : ℕ) → 1 ≤ m → f % 2 ≡ 0 → Tried m f → ⊥
unfolding Tried
even_tried m f h even t = t.1 (2, degree_one 2 (omega arith), below_degree 2 m (omega arith) (two m h), (f / 2, x_times))
  where
    two : (m : ℕ) → 1 ≤ m → 2 < 2 * 2 ^ m
    two zero h = absurd (omega arith)
    two (suc m) h = omega (arith, pow_pos m)

    x_times : times (f / 2) 2 ≡ f
    x_times = times_double_r (f / 2) 1 ∙ ap (λ x. 2 * x) (times_one_r (f / 2)) ∙ omega arith

even_divisor : (h f : ℕ) → Divides (2 * h) f → f % 2 ≡ 0
even_divisor h f (q, e) = omega (arith, times_double_r q h)

-- the divisors 2h + 1
pub odd_tried : (m f h : ℕ) → 1 ≤ h → h < 2 ^ m → residue (2 * h + 1) f ≡ 0 → Tried m f → ⊥
unfolding Tried
odd_tried m f h one below e t =
    let g = 2 * h + 1 in
    t.1 (g, degree_one g (omega arith), below_degree g m (omega arith) (omega arith), (residue_divides (degree g) g (degree_at g (omega arith)) f).0 e)

-- and one that leaves something does not divide
pub odd_none : (f h : ℕ) → (residue (2 * h + 1) f ≡ 0 → ⊥) → Divides (2 * h + 1) f → ⊥
odd_none f h n d = n ((residue_divides (degree (2 * h + 1)) (2 * h + 1) (degree_at (2 * h + 1) (omega arith)) f).1 d)

-- where none of the divisors tried divides, no polynomial of degree 1 to m does
pub all_tried : (m f : ℕ) → 2 ≤ f → (1 ≤ m → 0 < f % 2) → ((h : ℕ) → h < 2 ^ m → 1 ≤ h → Divides (2 * h + 1) f → ⊥) → Tried m f
unfolding Tried
all_tried m f two odd none = (degree_one f two, λ (g, one, most, d). by g (one_degree g one) one most d (g % 2) refl)
  where
    by : (g : ℕ) → 2 ≤ g → 1 ≤ degree g → degree g ≤ m → Divides g f → (c : ℕ) → g % 2 ≡ c → ⊥
    by g two one most d zero e =
        let s : g ≡ 2 * (g / 2) = omega arith in
        omega (arith, even_divisor (g / 2) f (subst (λ x. Divides x f) s d), odd (omega arith))
    by g two one most d (suc zero) e =
        let s : g ≡ 2 * (g / 2) + 1 = omega arith in
        none (g / 2) (omega (arith, degree_below g m (omega arith) most)) (omega arith) (subst (λ x. Divides x f) s d)
    by g two one most d (suc (suc c)) e = omega arith

-- the same, where each of them leaves something
pub all_leave : (m f : ℕ) → 2 ≤ f → (1 ≤ m → 0 < f % 2) → ((h : ℕ) → 1 ≤ h → h < 2 ^ m → residue (2 * h + 1) f ≡ 0 → ⊥) → Tried m f
all_leave m f two odd none = all_tried m f two odd (λ h below one. odd_none f h (none h one below))

pub ruleset trying = (none_tried, even_tried, odd_tried, all_leave)
