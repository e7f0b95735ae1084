-- What a polynomial picks from a table: linear in the polynomial, and a residue where the table has the powers of x.
use Rattle.std.proofs.Common.{◌≡◌, ℕ, zero, suc, ◌+◌, ◌*◌, ◌/◌, ◌%◌, ◌^◌, ◌<◌, List, [], ◌∷◌, length, get_or, sym, refl, ap, ◌∙◌, ap₂, mul_assoc, add-mul, one-mul, zero-mul, arith, pow_pos}
use Rattle.std.specs.Int.Bits.{bit_xor, xor_comm, xor_mod, xor_shr, xor_shifted}
use Rattle.gf2.specs.Polynomials.{residue}
use Rattle.gf2.specs.Tables.{combination, Powers}
use Rattle.gf2.proofs.Sums.{by_digit, xors, xor_swap, digit_xor_mul, Degree}
use Rattle.gf2.proofs.Remainders.{residue_zero, residue_xor}

pub combination_zero : (ts : List ℕ) → combination ts 0 ≡ 0
unfolding combination
combination_zero [] = refl
combination_zero (t ∷ ts) = ap₂ bit_xor (zero-mul t) (combination_zero ts)

pub combination_xor : (ts : List ℕ) (a b : ℕ) → combination ts (bit_xor a b) ≡ bit_xor (combination ts a) (combination ts b)
unfolding combination
combination_xor [] a b = refl
combination_xor (t ∷ ts) a b =
    ap₂ (λ c p. bit_xor (c * t) (combination ts p)) (xor_mod a b 1) (xor_shr a b 1)
    ∙ ap₂ bit_xor (digit_xor_mul (a % 2) (b % 2) t (omega arith) (omega arith)) (combination_xor ts (a / 2) (b / 2))
    ∙ xor_swap (a % 2 * t) (b % 2 * t) (combination ts (a / 2)) (combination ts (b / 2))

pub combination_power : (ts : List ℕ) (j : ℕ) → j < length ts → combination ts (2 ^ j) ≡ get_or ts j 0
unfolding combination
combination_power [] j h = absurd (omega arith)
combination_power (t ∷ ts) zero h = ap₂ bit_xor (one-mul t) (combination_zero ts) ∙ simp xors
combination_power (t ∷ ts) (suc j) h =
    let even : 2 ^ suc j % 2 ≡ 0 = omega arith in
    let half : 2 ^ suc j / 2 ≡ 2 ^ j = omega arith in
    ap₂ (λ c p. bit_xor (c * t) (combination ts p)) even half ∙ ap₂ bit_xor (zero-mul t) (combination_power ts j (omega arith))

module _ (k f : ℕ) (d : Degree f k) where
  residue_digit : (c p : ℕ) → c < 2 → c * residue f p ≡ residue f (c * p)
  residue_digit c p =
      by_digit (λ c. c * residue f p ≡ residue f (c * p)) (zero-mul (residue f p) ∙ sym (ap (residue f) (zero-mul p) ∙ residue_zero f))
      (one-mul (residue f p) ∙ ap (residue f) (sym (one-mul p)))
      c

  -- the powers from x^s on
  picked : (ts : List ℕ) (s p : ℕ) → ((j : ℕ) → j < length ts → get_or ts j 0 ≡ residue f (2 ^ (s + j))) → p < 2 ^ length ts
      → combination ts p ≡ residue f (p * 2 ^ s)
  unfolding combination
  picked [] s p h l = let z : p * 2 ^ s ≡ 0 = ap (λ x. x * 2 ^ s) (omega arith) ∙ zero-mul (2 ^ s) in sym (ap (residue f) z ∙ residue_zero f)
  picked (t ∷ ts) s p h l =
      let c = p % 2 in
      let half : p < 2 ^ suc (length ts) = l in
      let first : s + 0 ≡ s = omega arith in
      let later : combination ts (p / 2) ≡ residue f (p / 2 * 2 ^ suc s) =
      picked ts (suc s) (p / 2) (λ j m. let e : s + suc j ≡ suc s + j = omega arith in h (suc j) (omega arith) ∙ ap (λ x. residue f (2 ^ x)) e) (omega arith) in
      let here : c * t ≡ residue f (c * 2 ^ s) =
      ap (λ x. c * x) (h 0 (omega arith) ∙ ap (λ x. residue f (2 ^ x)) first) ∙ residue_digit c (2 ^ s) (omega arith) in
      ap₂ bit_xor here later
      ∙ sym (residue_xor k f d (c * 2 ^ s) (p / 2 * 2 ^ suc s))
      ∙ ap (residue f) (whole s p)
    where
      below : (c s : ℕ) → c < 2 → c * 2 ^ s < 2 ^ suc s
      below c s = by_digit (λ c. c * 2 ^ s < 2 ^ suc s) (omega (arith, pow_pos s)) (omega (arith, pow_pos s)) c

      whole : (s p : ℕ) → bit_xor (p % 2 * 2 ^ s) (p / 2 * 2 ^ suc s) ≡ p * 2 ^ s
      whole s p =
          let twice : 2 ^ suc s ≡ 2 * 2 ^ s = omega arith in
          let split : p / 2 * 2 + p % 2 ≡ p = omega arith in
          xor_comm (p % 2 * 2 ^ s) (p / 2 * 2 ^ suc s) ∙ xor_shifted (p / 2) (suc s) (p % 2 * 2 ^ s) (below (p % 2) s (omega arith))
          ∙ ap (λ x. p / 2 * x + p % 2 * 2 ^ s) twice ∙ ap (λ x. x + p % 2 * 2 ^ s) (sym (mul_assoc (p / 2) 2 (2 ^ s)))
          ∙ sym (add-mul (p / 2 * 2) (p % 2) (2 ^ s)) ∙ ap (λ x. x * 2 ^ s) split

  pub powers_of : (table : List ℕ) → ((j : ℕ) → j < length table → get_or table j 0 ≡ residue f (2 ^ j)) → Powers f table
  powers_of table h = record {
    power = h;
    residues = λ p l.
        let one : p * 1 ≡ p = omega arith in
        picked table 0 p (λ j m. let e : j ≡ 0 + j = omega arith in h j m ∙ ap (λ x. residue f (2 ^ x)) e) l ∙ ap (residue f) one;
  }
