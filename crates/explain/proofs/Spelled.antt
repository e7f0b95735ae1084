-- A sum of powers, as it is written one power after another.
use Rattle.std.proofs.Common.{◌≡◌, ℕ, zero, suc, ◌-◌, ◌/◌, ◌^◌, ◌<◌, cond, List, [], ◌∷◌, ◌++◌, codes, bit_and, ◌==◌, refl, sym, ap, ◌∙◌, append_assoc, append-nil, subst, rules, arith}
use denote.Shadow.{shadow}
use denote.Text.{Utf8}
use native.Mathlib.Numerals.{unary_clauses}
use Rattle.std.specs.declared.fmt.Formatter.{Formatter}
use Rattle.std.specs.Fmt.{HasWritten}
use Rattle.std.proofs.Output.{has_written_append, has_written_of_eq}
use Rattle.std.proofs.lemmas.Bool.{eq-eqb, ne_eqb}
use Rattle.gf2.proofs.Digits.{digit_is}
use Rattle.gf2.specs.Polynomials.{coefficient}
use Rattle.explain.specs.Spelling.{power, exponents, summed}

-- the powers that are still to come, after the separator that stands before the next
abbrev pub onward : List ℕ → List ℕ → List ℕ
onward separator [] = []
onward separator (i ∷ is) = separator ++ summed (i ∷ is)

-- g is f after some powers were written, and the whole is what they make with those that are to come
pub record IsUnderway {W : Type 0} (took : W → List ℕ → W → Type 0) (f g : Formatter W) (separator to_come whole : List ℕ) : Type 0 where
  pub written : List ℕ
  pub wrote : HasWritten took f written g
  pub onward : written ++ onward separator to_come ≡ whole

-- the exponents below n, as the coefficient of x^(n - 1) tells
pub next_exponent : (p n : ℕ) → 0 < n → exponents n p ≡ cond (coefficient p (n - 1) == 1) ((n - 1) ∷ exponents (n - 1) p) (exponents (n - 1) p)
unfolding exponents
next_exponent p zero some = absurd (omega arith)
next_exponent p (suc n) some = simp unary_clauses refl

pub one_there : (p n : ℕ) → 0 < n → bit_and (p / 2 ^ (n - 1)) 1 ≡ 1 → exponents n p ≡ (n - 1) ∷ exponents (n - 1) p
one_there p n some e =
    next_exponent p n some ∙ ap (λ b. cond b ((n - 1) ∷ exponents (n - 1) p) (exponents (n - 1) p)) (eq-eqb (coefficient p (n - 1)) 1 (sym (digit_is (p / 2 ^ (n - 1))) ∙ e))

pub none_there : (p n : ℕ) → 0 < n → (bit_and (p / 2 ^ (n - 1)) 1 ≡ 1 → ⊥) → exponents n p ≡ exponents (n - 1) p
none_there p n some e =
    next_exponent p n some
    ∙ ap (λ b. cond b ((n - 1) ∷ exponents (n - 1) p) (exponents (n - 1) p)) (ne_eqb (coefficient p (n - 1)) 1 (λ here. e (digit_is (p / 2 ^ (n - 1)) ∙ here)))

pub summed_first : (i : ℕ) (is : List ℕ) → summed (i ∷ is) ≡ power i ++ onward (codes " + ") is
summed_first i [] = sym (append-nil (power i))
summed_first i (j ∷ js) = refl

-- the separator is text
pub plus_is_text : shadow (Utf8 (32 ∷ 43 ∷ 32 ∷ []))
plus_is_text = search rules

-- one power more is written
pub onward_first : (separator : List ℕ) (i : ℕ) (is : List ℕ) → (separator ++ power i) ++ onward (codes " + ") is ≡ onward separator (i ∷ is)
onward_first separator i is = append_assoc separator (power i) (onward (codes " + ") is) ∙ ap (λ t. separator ++ t) (sym (summed_first i is))

module _ {W : Type 0} (took : W → List ℕ → W → Type 0) where
  pub one_more : (f g h : Formatter W) (separator whole : List ℕ) (p n : ℕ) → IsUnderway took f g separator (exponents n p) whole → 0 < n → bit_and (p / 2 ^ (n - 1)) 1 ≡ 1
      → HasWritten took g (separator ++ power (n - 1)) h → IsUnderway took f h (codes " + ") (exponents (n - 1) p) whole
  one_more f g h separator whole p n so_far some e here = record {
    written = so_far.written ++ (separator ++ power (n - 1));
    wrote = has_written_append took f so_far.written g (separator ++ power (n - 1)) h so_far.wrote here;
    onward =
        append_assoc so_far.written (separator ++ power (n - 1)) (onward (codes " + ") (exponents (n - 1) p))
        ∙ ap (λ t. so_far.written ++ t) (onward_first separator (n - 1) (exponents (n - 1) p) ∙ ap (onward separator) (sym (one_there p n some e)))
        ∙ so_far.onward;
  }

  pub none_more : (f g : Formatter W) (separator whole : List ℕ) (p n : ℕ) → IsUnderway took f g separator (exponents n p) whole → 0 < n → (bit_and (p / 2 ^ (n - 1)) 1 ≡ 1 → ⊥)
      → IsUnderway took f g separator (exponents (n - 1) p) whole
  none_more f g separator whole p n so_far some e = subst (λ is. IsUnderway took f g separator is whole) (none_there p n some e) so_far

  pub all_written : (f g : Formatter W) (separator whole : List ℕ) (p n : ℕ) → IsUnderway took f g separator (exponents n p) whole → n ≡ 0 → HasWritten took f whole g
  unfolding exponents
  all_written f g separator whole p zero so_far none = has_written_of_eq took f so_far.written whole g (sym (append-nil so_far.written) ∙ so_far.onward) so_far.wrote
  all_written f g separator whole p (suc n) so_far none = absurd (omega arith)

-- the steps of writing a sum
pub ruleset power_by_power = (plus_is_text, one_more, none_more, all_written)
