-- What the functions of a feedback rest on, at every feedback.
use Rattle.std.proofs.Common.{◌≡◌, ℕ, suc, ◌+◌, ◌-◌, ◌*◌, ◌/◌, ◌^◌, ◌<◌, ◌≤◌, Bool, false, List, [], ◌∷◌, fold, length, get_or, take, sym, refl, ap, ◌∙◌, subst, arith, pow_mono, pow_pos}
use Rattle.std.proofs.lemmas.Grind.{common_steps}
use Rattle.std.specs.Int.Bits.{bit_xor, bit_and}
use Rattle.gf2.specs.Polynomials.{times, degree, residue}
use Rattle.gf2.specs.Responses.{bit, polynomial}
use Rattle.gf2.specs.Tables.{combination}
use Rattle.gf2.specs.Laws.{DivisionLaws, ResidueLaws}
use Rattle.gf2.specs.declared.feedback.Feedback.{Feedback}
use Rattle.gf2.proofs.Sums.{carry_below}
use Rattle.gf2.proofs.Remainders.{DivisionAt, residue_below, residue_is, residue_again, residue_zero, carry_taken}
use Rattle.gf2.proofs.Digits.{digit_below, division_digit}
use Rattle.gf2.proofs.Responses.{bit_below, bit_is, polynomial_more, response_laws}
use Rattle.gf2.proofs.Feedbacks.{some, has_degree}
use Rattle.gf2.proofs.Times.{times_zero}
use Rattle.gf2.proofs.Tables.{powers_of}
use Rattle.gf2.proofs.Named.{division_laws, residue_laws}

pub feedback_divides : (s : Feedback) → DivisionLaws s.code
feedback_divides s = division_laws s.code (some s)

pub feedback_leaves : (s : Feedback) → ResidueLaws s.code
feedback_leaves s = residue_laws s.code (some s)

pub residue_room : (s : Feedback) → 2 ^ s.stages ≤ 16777216
residue_room s = let few : s.stages ≤ 24 = omega (arith, s.counted, s.lawful.most) in pow_mono few

-- a turn of the long division, from the highest digit down
module _ (s : Feedback) (p n q r e : ℕ) (some : 0 < n) (most : n ≤ 64) (whole : p / 2 ^ n ≡ bit_xor (times q s.code) r) (rest : r < 2 ^ s.stages) (low : q < 2 ^ (64 - n)) (same : e ≡ s.code) where
  abbrev sum : ℕ
  sum = 2 * r + bit_and (p / 2 ^ (n - 1)) 1

  carry : sum / 2 ^ s.stages < 2
  carry = carry_below s.stages sum (omega (arith, digit_below (p / 2 ^ (n - 1))))

  now : DivisionAt s.stages (p / 2 ^ (n - 1)) s.code (2 * q + sum / 2 ^ s.stages) (bit_xor sum (sum / 2 ^ s.stages * s.code))
  now =
      let up : n ≡ n - 1 + 1 = omega arith in
      division_digit s.stages s.code p (n - 1) q r (has_degree s) (subst (λ m. DivisionAt s.stages (p / 2 ^ m) s.code q r) up (whole, rest))

  pub whole_turn : p / 2 ^ (n - 1) ≡ bit_xor (times (2 * q + (2 * r + bit_and (p / 2 ^ (n - 1)) 1) / 2 ^ s.stages) s.code) (bit_xor (2 * r + bit_and (p / 2 ^ (n - 1)) 1) ((2 * r + bit_and (p / 2 ^ (n - 1)) 1) / 2 ^ s.stages * e))
  whole_turn = rw same now.0

  pub rest_turn : bit_xor (2 * r + bit_and (p / 2 ^ (n - 1)) 1) ((2 * r + bit_and (p / 2 ^ (n - 1)) 1) / 2 ^ s.stages * e) < 2 ^ s.stages
  rest_turn = rw same now.1

  pub quotient_turn : 2 * q + (2 * r + bit_and (p / 2 ^ (n - 1)) 1) / 2 ^ s.stages < 2 ^ (64 - (n - 1))
  quotient_turn = let more : 64 - (n - 1) ≡ suc (64 - n) = omega arith in rw more (omega (arith, carry))

  pub quotient_fits : 2 * q + (2 * r + bit_and (p / 2 ^ (n - 1)) 1) / 2 ^ s.stages < 18446744073709551616
  quotient_fits = let few : 64 - (n - 1) ≤ 64 = omega arith in let wide : 2 ^ (64 - (n - 1)) ≤ 2 ^ 64 = pow_mono few in omega (arith, quotient_turn)

pub ruleset dividing = (feedback_divides, residue_room, times_zero, pow_pos, whole_turn, rest_turn, quotient_turn, quotient_fits)

-- ---- what is left

pub residue_fits : (s : Feedback) (p : ℕ) → residue s.code p < 16777216
residue_fits s p = omega (arith, residue_below s.stages s.code (has_degree s) p, residue_room s)

-- one step is enough below 2^(k+1)
pub step_leaves : (s : Feedback) (p e : ℕ) → p / 2 ^ s.stages < 2 → e ≡ s.code → bit_xor p (p / 2 ^ s.stages * e) ≡ residue s.code p
step_leaves s p e low same = rw same (carry_taken s.stages s.code (has_degree s) p low)

pub division_leaves : (s : Feedback) (p q r : ℕ) → p ≡ bit_xor (times q s.code) r → r < 2 ^ degree s.code → residue s.code p ≡ r
division_leaves s p q r whole rest = residue_is s.stages s.code (has_degree s) p q r (whole, omega (arith, ap (λ k. 2 ^ k) s.counted))

pub ruleset leaving = (residue_room, residue_fits, step_leaves, division_leaves)

-- ---- a response, bit by bit

-- with one bit more
pub residue_next : (s : Feedback) (bits : List Bool) (i : ℕ) → i < length bits
    → residue s.code (polynomial (take (i + 1) bits)) ≡ residue s.code (2 * residue s.code (polynomial (take i bits)) + bit (get_or bits i false))
residue_next s bits i within =
    ap (residue s.code) (polynomial_more bits i within)
    ∙ sym (residue_again s.stages s.code (has_degree s) (polynomial (take i bits)) (bit (get_or bits i false)) (bit_below (get_or bits i false)))

pub ruleset clocking = (bit_is, residue_next)

-- the whole of it
module _ (s : Feedback) where
  clock : ℕ → Bool → ℕ
  clock r c = residue s.code (2 * r + bit c)

  goes_on : (p : ℕ) (bits : List Bool) → residue s.code (fold (λ p c. 2 * p + bit c) p bits) ≡ fold clock (residue s.code p) bits
  unfolding clock
  goes_on p [] = refl
  goes_on p (c ∷ bits) =
      goes_on (2 * p + bit c) bits
      ∙ ap (λ r. fold clock r bits) (sym (residue_again s.stages s.code (has_degree s) p (bit c) (bit_below c)))

  pub residue_whole : (bits : List Bool) → residue s.code (polynomial bits) ≡ fold (λ r c. residue s.code (2 * r + bit c)) 0 bits
  unfolding polynomial clock
  residue_whole bits = goes_on 0 bits ∙ ap (λ r. fold clock r bits) (residue_zero s.code)

pub ruleset residues = (residue_whole, feedback_leaves, response_laws)

-- ---- the powers of x

pub power_next : (s : Feedback) (j : ℕ) → residue s.code (2 ^ (j + 1)) ≡ residue s.code (2 * residue s.code (2 ^ j) + 0)
power_next s j =
    let twice : 2 ^ (j + 1) ≡ 2 * 2 ^ j + 0 = let up : j + 1 ≡ suc j = omega arith in rw up (omega arith) in
    ap (residue s.code) twice ∙ sym (residue_again s.stages s.code (has_degree s) (2 ^ j) 0 (omega arith))

pub powers_pick : (s : Feedback) (table : List ℕ) (p : ℕ) → ((j : ℕ) → j < length table → get_or table j 0 ≡ residue s.code (2 ^ j)) → p < 2 ^ length table
    → combination table p ≡ residue s.code p
powers_pick s table p powers low = (powers_of s.stages s.code (has_degree s) table powers).residues p low

pub ruleset powers = (common_steps, power_next, powers_pick)
