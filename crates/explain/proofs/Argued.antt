-- Numbers and responses, as texts.
use Rattle.std.proofs.Common.{◌≡◌, nat_eq, ℕ, ◌+◌, ◌-◌, ◌*◌, ◌^◌, ◌<◌, ◌≤◌, min, Bool, false, ◌⊎◌, List, [], ◌∷◌, ◌++◌, length, get_or, take, sym, ap, ◌∙◌, subst, inl, inr, arith}
use Rattle.std.proofs.lemmas.List.{take_all, take_more, map_push, get_or-map, length-map}
use Rattle.std.proofs.lemmas.List.Sums.{fold_more}
use Rattle.std.proofs.lemmas.Bool.{cases_lt, eqb-false}
use Rattle.gf2.specs.Feedbacks.{IsFeedback}
use Rattle.gf2.proofs.Degrees.{degree_below}
use Rattle.explain.specs.Answers.{Read, ExplainsTyped}
use Rattle.explain.specs.Arguments.{number, digit, typed}

-- ---- the number, which stops at the largest of 64 bits

-- the number of one character more
number_more : (text : List ℕ) (i : ℕ) → i < length text → number (take (i + 1) text) ≡ 10 * number (take i text) + (get_or text i 0 - 48)
number_more text i h = fold_more (λ v c. 10 * v + (c - 48)) 0 text i 0 h

-- one digit more, where each step stops at the largest of 64 bits
saturates : (n d code ten sum : ℕ) → code ≡ min n (2 ^ 64 - 1) → ten ≡ min (code * 10) (2 ^ 64 - 1) → sum ≡ min (ten + d) (2 ^ 64 - 1) → sum ≡ min (10 * n + d) (2 ^ 64 - 1)
saturates n d code ten sum a b e = omega arith

-- the two together, as a loop over the characters makes them
pub code_more : (text : List ℕ) (i code ten sum : ℕ) → i < length text → code ≡ min (number (take i text)) (2 ^ 64 - 1) → ten ≡ min (code * 10) (2 ^ 64 - 1)
    → sum ≡ min (ten + (get_or text i 0 - 48)) (2 ^ 64 - 1) → sum ≡ min (number (take (i + 1) text)) (2 ^ 64 - 1)
code_more text i code ten sum h a b e =
    saturates (number (take i text)) (get_or text i 0 - 48) code ten sum a b e ∙ ap (λ n. min n (2 ^ 64 - 1)) (sym (number_more text i h))

-- a number that 64 bits do not hold is no feedback's, and the largest that they do is none's either
large : (n : ℕ) → 2 ^ 25 ≤ n → IsFeedback n → ⊥
large n h f = omega (arith, degree_below n 24 (omega arith) f.most)

pub as_good : (v n : ℕ) → v ≡ min n (2 ^ 64 - 1) → (bits said : List ℕ) → ExplainsTyped v bits said → ExplainsTyped n bits said
as_good v n e bits said (b, is, says) = by (cases_lt n (2 ^ 64 - 1))
  where
    by : (n < 2 ^ 64 - 1) ⊎ (2 ^ 64 - 1 ≤ n) → ExplainsTyped n bits said
    by (inl l) = let same : v ≡ n = omega arith in subst (λ m. ExplainsTyped m bits said) same (b, is, says)
    by (inr l) = (
      b,
      is,
      elim says [
        | inl f ↦ absurd (large v (omega arith) f.0)
        | inr f ↦ inr (large n (omega arith), f.1)
      ],
    )

-- the number is read once all of the text is
pub all_read : (text : List ℕ) (i v : ℕ) → false ≡ nat_eq (length text) 0 → length text ≤ i → ((k : ℕ) → k < i → (48 ≤ get_or text k 0) × (get_or text k 0 ≤ 57))
    → v ≡ min (number (take i text)) (2 ^ 64 - 1) → Read text v
all_read text i v some whole digits value =
    let some' : 0 < length text = omega (arith, eqb-false (length text) 0 (sym some)) in
    let value' : v ≡ min (number text) (2 ^ 64 - 1) = value ∙ ap (λ t. min (number t) (2 ^ 64 - 1)) (take_all i text whole) in
    record { numeral = record { some = some'; digits = λ k h. digits k (omega arith) }; value = value'; same = as_good v (number text) value' }

-- ---- the bits

-- a response of one character more
pub typed_more : (text : List ℕ) (i : ℕ) (bits : List Bool) (b : Bool) → i < length text → take i text ≡ typed bits → get_or text i 0 ≡ digit b
    → take (i + 1) text ≡ typed (bits ++ b ∷ [])
typed_more text i bits b h so_far here =
    take_more text i 0 h ∙ ap (λ c. take i text ++ c ∷ []) here ∙ ap (λ front. front ++ digit b ∷ []) so_far ∙ sym (map_push digit bits b)

-- each character of a response is a digit
pub not_typed : (text : List ℕ) (i : ℕ) → i < length text → ((b : Bool) → get_or text i 0 ≡ digit b → ⊥) → (bits : List Bool) → text ≡ typed bits → ⊥
not_typed text i h none bits e =
    let l : i < length bits = omega (arith, ap length e, length-map bits digit) in
    none (get_or bits i false) (ap (λ t. get_or t i 0) e ∙ get_or-map digit bits i false 0 l)
