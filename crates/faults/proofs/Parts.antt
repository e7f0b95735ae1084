-- What a response picks from words in two parts: the last words are those of the first clocks.
use Rattle.std.proofs.Common.{◌≡◌, ℕ, zero, suc, ◌+◌, ◌*◌, ◌/◌, ◌%◌, ◌^◌, ◌<◌, Bool, List, [], ◌∷◌, ◌++◌, length, sym, ap, ◌∙◌, ap₂, mul_assoc, mul_comm, arith, length-append}
use lib.Bits.{bit_xor, xor_comm, xor_assoc, xor_zero_r}
use Rattle.gf2.specs.Responses.{bit, response}
use Rattle.gf2.specs.Tables.{combination}
use Rattle.gf2.proofs.Responses.{response_none, response_more, response_below}

double : (x b : ℕ) → x * 2 ^ suc b ≡ 2 * (x * 2 ^ b)
double x b =
    let t : 2 ^ suc b ≡ 2 * 2 ^ b = omega arith in
    ap (λ y. x * y) t ∙ sym (mul_assoc x 2 (2 ^ b)) ∙ ap (λ y. y * 2 ^ b) (mul_comm x 2) ∙ mul_assoc 2 x (2 ^ b)

response_split : (a b : ℕ) (w : ℕ → Bool) → response (a + b) w ≡ response a w * 2 ^ b + response b (λ k. w (a + k))
response_split a zero w = let e : a + 0 ≡ a = omega arith in ap (λ n. response n w) e ∙ sym (ap (λ x. response a w * 1 + x) (response_none (λ k. w (a + k))) ∙ omega arith)
response_split a (suc b) w =
    let e : a + suc b ≡ suc (a + b) = omega arith in
    let v : ℕ → Bool = λ k. w (a + k) in
    let d = double (response a w) b in
    ap (λ n. response n w) e ∙ response_more (a + b) w ∙ ap (λ x. 2 * x + bit (w (a + b))) (response_split a b w) ∙ sym (ap₂ (λ x y. x + y) d (response_more b v) ∙ omega arith)

combination_append : (xs ys : List ℕ) (p q : ℕ) → p < 2 ^ length xs → combination (xs ++ ys) (q * 2 ^ length xs + p) ≡ bit_xor (combination xs p) (combination ys q)
unfolding combination
combination_append [] ys p q h = let e : q * 1 + p ≡ q = omega arith in ap (combination ys) e ∙ sym (xor_comm 0 (combination ys q) ∙ xor_zero_r (combination ys q))
combination_append (x ∷ xs) ys p q h =
    let d = double q (length xs) in
    let digit : (q * 2 ^ suc (length xs) + p) % 2 ≡ p % 2 = omega arith in
    let half : (q * 2 ^ suc (length xs) + p) / 2 ≡ q * 2 ^ length xs + p / 2 = omega arith in
    ap₂ (λ c r. bit_xor (c * x) (combination (xs ++ ys) r)) digit half
    ∙ ap (bit_xor (p % 2 * x)) (combination_append xs ys (p / 2) q (omega arith))
    ∙ sym (xor_assoc (p % 2 * x) (combination xs (p / 2)) (combination ys q))

-- the words of the first clocks, then the others
pub combination_parts : (front back : List ℕ) (w : ℕ → Bool) → combination (front ++ back) (response (length (front ++ back)) w)
    ≡ bit_xor (combination back (response (length back) w)) (combination front (response (length front) (λ k. w (length back + k))))
combination_parts front back w =
    let v : ℕ → Bool = λ k. w (length back + k) in
    let e : length (front ++ back) ≡ length back + length front = length-append front back ∙ omega arith in
    ap (λ n. combination (front ++ back) (response n w)) e
    ∙ ap (combination (front ++ back)) (response_split (length back) (length front) w)
    ∙ combination_append front back (response (length front) v) (response (length back) w) (response_below (length front) v)
    ∙ xor_comm (combination front (response (length front) v)) (combination back (response (length back) w))
