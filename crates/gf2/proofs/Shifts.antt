-- A divisor moved up by a power of x, and taken off.
use Rattle.std.proofs.Common.{◌≡◌, ℕ, ◌+◌, ◌-◌, ◌*◌, ◌%◌, ◌^◌, ◌<◌, ◌≤◌, sym, ap, ◌∙◌, subst, one-mul, arith, pow_pos, pow_mono}
use Rattle.std.specs.Int.Bits.{bit_xor, xor_zero_r}
use Rattle.std.proofs.lemmas.Nat.{one_shl}
use Rattle.gf2.specs.Polynomials.{times, residue}
use Rattle.gf2.proofs.Sums.{Degree, degrees_xor}
use Rattle.gf2.proofs.Times.{times_one, times_shift}
use Rattle.gf2.proofs.Degrees.{times_degree, pow_le_of}
use Rattle.gf2.proofs.Remainders.{residue_xor, residue_divides, residue_small}

pub times_power : (f s : ℕ) → times (2 ^ s) f ≡ f * 2 ^ s
times_power f s = ap (λ x. times x f) (sym (one-mul (2 ^ s))) ∙ times_shift 1 s f ∙ ap (λ x. x * 2 ^ s) (times_one f)

-- f·x^(j-k) has the degree j
moved_degree : (f k j : ℕ) → Degree f k → k ≤ j → Degree (f * 2 ^ (j - k)) j
moved_degree f k j d l =
    let e : j - k + k ≡ j = omega arith in
    let own : Degree (2 ^ (j - k)) (j - k) = omega (arith, pow_pos (j - k)) in
    subst (λ x. Degree x j) (times_power f (j - k)) (subst (Degree (times (2 ^ (j - k)) f)) e (times_degree (j - k) (2 ^ (j - k)) k f own d))

-- and fits a word of 32 bits
pub moved_whole : (f k j : ℕ) → Degree f k → k ≤ j → j < 32 → f * 2 ^ (j - k) % 4294967296 ≡ f * 2 ^ (j - k)
moved_whole f k j d l h =
    let b : j ≤ 31 = omega arith in
    let p : 2 ^ j ≤ 2 ^ 31 = pow_mono b in
    let e = moved_degree f k j d l in
    omega arith

-- what is left is less without the divisor, moved up to its degree
pub taken_less : (f k r j : ℕ) → Degree f k → Degree r j → k ≤ j → bit_xor r (f * 2 ^ (j - k)) < r
taken_less f k r j d e l = omega (arith, degrees_xor r (f * 2 ^ (j - k)) j e (moved_degree f k j d l))

-- and has the same residue without the divisor, moved up by any power of x
pub taken_same : (f k r s : ℕ) → Degree f k → residue f (bit_xor r (f * 2 ^ s)) ≡ residue f r
taken_same f k r s d =
    residue_xor k f d r (f * 2 ^ s) ∙ ap (bit_xor (residue f r)) ((residue_divides k f d (f * 2 ^ s)).1 (2 ^ s, times_power f s)) ∙ xor_zero_r (residue f r)

-- both in a word of 32 bits: a turn of the division takes off the divisor, moved up to the degree of what is left
pub word_less : (f k r j : ℕ) → Degree f k → Degree r j → k ≤ j → j < 32 → bit_xor r (f * 2 ^ (j - k) % 4294967296) < r
word_less f k r j d e l h = rw (moved_whole f k j d l h) (taken_less f k r j d e l)

pub word_same : (f k r j : ℕ) → Degree f k → k ≤ j → j < 32 → residue f (bit_xor r (f * 2 ^ (j - k) % 4294967296)) ≡ residue f r
word_same f k r j d l h = rw (moved_whole f k j d l h) (taken_same f k r (j - k) d)

pub ruleset taken = (one_shl, pow_le_of, word_less, word_same, residue_small)
