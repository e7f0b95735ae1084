-- The quotient of a response, one bit longer.
use Rattle.std.proofs.Common.{◌≡◌, ℕ, ◌+◌, ◌*◌, ◌^◌, ◌<◌, ◌≤◌, Bool, true, false, refl, List, length, get_or, take, Some, None, Option, sym, ◌∙◌, subst, ap₂, pow_mono, inl, inr, arith}
use mir.Val.{bool_byte}
use Rattle.std.specs.Int.{from_bool}
use Rattle.std.proofs.lemmas.Bool.{lt-ltb, le-ltb, cases_lt}
use Rattle.gf2.specs.Polynomials.{degree, Division, residue}
use Rattle.gf2.specs.Responses.{bit, polynomial}
use Rattle.gf2.specs.declared.feedback.Feedback.{Feedback}
use Rattle.gf2.proofs.Feedbacks.{some}
use Rattle.gf2.proofs.Responses.{no_bits, bit_below, bit_is, polynomial_more}
use Rattle.gf2.proofs.Named.{division_none, division_on, residue_laws}
use Rattle.std.proofs.lemmas.List.{take_all}
use Rattle.explain.specs.Quotient.{Quotient, appended}

some_quotient : (f p : ℕ) (o : Option ℕ) → Quotient f p o → (q : ℕ) × Division p f q (residue f p)
some_quotient f p None (q, l, a) = (q, a)
some_quotient f p (Some q) (l, a) = (q, a)

quotient_more : (f p c d : ℕ) (o : Option ℕ) → ((q : ℕ) → Division p f q (residue f p) → Division (2 * p + c) f (2 * q + d) (residue f (2 * p + c)))
    → Quotient f p o → Quotient f (2 * p + c) (appended o d)
quotient_more f p c d None on (q, l, a) = (2 * q + d, omega arith, on q a)
quotient_more f p c d (Some q) on (m, a) = elim (cases_lt (2 * q + d) (2 ^ 64)) [
  | inl l ↦ rw (lt-ltb (2 * q + d) (2 ^ 64) l) (l, on q a)
  | inr l ↦ rw (le-ltb (2 * q + d) (2 ^ 64) l) (2 * q + d, l, on q a)
]

-- x·p + c, with the digit and the rest that a division gave
next_digit : (f : ℕ) → 0 < f → (p c : ℕ) → c < 2 → (o : Option ℕ) (d s : ℕ) → Quotient f p o → Division (2 * residue f p + c) f d s
    → (d < 2) × Quotient f (2 * p + c) (appended o d) × (s ≡ residue f (2 * p + c))
next_digit f some p c l o d s so_far next =
    let q = some_quotient f p o so_far in
    let on = division_on f some p q.0 c d s l q.1 next in
    (on.1, quotient_more f p c d o (λ m a. (division_on f some p m c d s l a next).0) so_far, on.2)

-- a response with one bit more
pub next_bit : (f : ℕ) → 0 < f → (bits : List Bool) (i : ℕ) → i < length bits → (o : Option ℕ) (r d s : ℕ) → Quotient f (polynomial (take i bits)) o → r ≡ residue f (polynomial (take i bits))
    → Division (2 * r + bool_byte (get_or bits i false)) f d s
    → (d < 2) × Quotient f (polynomial (take (i + 1) bits)) (appended o d) × (s ≡ residue f (polynomial (take (i + 1) bits)))
next_bit f some bits i within o r d s so_far left next =
    let b = get_or bits i false in
    rw (polynomial_more bits i within)
    (next_digit f some (polynomial (take i bits)) (bit b) (bit_below b) o d s so_far (subst (λ t. Division t f d s) (ap₂ (λ x y. 2 * x + y) left (bit_is b)) next))

-- what a bit is in the code
bit_from : (c : Bool) → from_bool c ≡ bit c
bit_from true = refl
bit_from false = refl

-- what the division of the first i bits of a response has come to
unfoldable pub IsDivided : Feedback → List Bool → ℕ → Option ℕ → ℕ → Type 0
IsDivided f bits i o r = Quotient f.code (polynomial (take i bits)) o × (r ≡ residue f.code (polynomial (take i bits)))

pub first_bit : (f : Feedback) (bits : List Bool) → IsDivided f bits 0 (Some 0) 0
unfolding IsDivided
first_bit f bits = ((omega arith, division_none f.code (some f)), sym (no_bits f.code))

pub next_divided : (f : Feedback) (bits : List Bool) (i : ℕ) (o : Option ℕ) (r d s : ℕ) → IsDivided f bits i o r → i < length bits → Division (2 * r + from_bool (get_or bits i false)) f.code d s
    → IsDivided f bits (i + 1) (appended o d) s
unfolding IsDivided
next_divided f bits i o r d s (so_far, left) within next =
    let b = get_or bits i false in
    let all = next_bit f.code (some f) bits i within o r d s so_far left (subst (λ c. Division (2 * r + c) f.code d s) (bit_from b ∙ sym (bit_is b)) next) in
    (all.1, all.2)

pub last_bit : (f : Feedback) (bits : List Bool) (i : ℕ) (o : Option ℕ) (r : ℕ) → IsDivided f bits i o r → length bits ≤ i → Quotient f.code (polynomial bits) o
unfolding IsDivided
last_bit f bits i o r (so_far, left) within = subst (λ b. Quotient f.code (polynomial b) o) (take_all i bits within) so_far

pub rest_below : (f : Feedback) (bits : List Bool) (i : ℕ) (o : Option ℕ) (r : ℕ) → IsDivided f bits i o r → r < 2 ^ 24
unfolding IsDivided
rest_below f bits i o r (so_far, left) =
    let wide : 2 ^ degree f.code ≤ 2 ^ 24 = pow_mono f.lawful.most in
    omega (arith, (residue_laws f.code (some f)).below (polynomial (take i bits)))

-- the steps of a division
pub ruleset bit_by_bit = (first_bit, next_divided, last_bit, rest_below)
