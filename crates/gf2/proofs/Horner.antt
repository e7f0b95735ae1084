-- The recursion over binary digits, by its one step.
use Rattle.std.proofs.Common.{◌≡◌, ℕ, zero, suc, ◌/◌, ◌%◌, ◌≤◌, sym, refl, ap, ◌∙◌, le_refl, not-suc-le-zero}
use Rattle.std.proofs.Math.Decide.{le_ind}
use Rattle.std.proofs.Math.Arith.{half_le}
use Rattle.gf2.specs.Polynomials.{horner, horner_in}

module _ {A : Type 0} (z : A) (g : A → ℕ → A) where
  more : (n a : ℕ) → a ≤ n → horner_in z g (suc n) a ≡ horner_in z g n a
  unfolding horner_in
  more n zero h = refl
  more zero (suc a) h = absurd (not-suc-le-zero h)
  more (suc n) (suc a) h = ap (λ x. g x (suc a % 2)) (more n (suc a / 2) (half_le h))

  enough : (n a : ℕ) → a ≤ n → horner_in z g n a ≡ horner_in z g a a
  enough n a h = le_ind (λ (m : ℕ). horner_in z g m a ≡ horner_in z g a a) refl (λ m k e. more m a k ∙ e) n h

  pub horner_suc : (a : ℕ) → horner z g (suc a) ≡ g (horner z g (suc a / 2)) (suc a % 2)
  unfolding horner
  horner_suc a = ap (λ x. g x (suc a % 2)) (enough a (suc a / 2) (half_le (le_refl (suc a))))

  pub horner_step : g z 0 ≡ z → (a : ℕ) → horner z g a ≡ g (horner z g (a / 2)) (a % 2)
  unfolding horner
  horner_step e zero = sym e
  horner_step e (suc a) = horner_suc a
