-- The definitions, computed on examples.
use Rattle.std.proofs.Common.{◌≡◌, ◌+◌, ◌-◌, ◌^◌, true, false, [], ◌∷◌, refl, arith}
use Rattle.gf2.specs.Polynomials.{times, degree, residue, Reducible}
use Rattle.gf2.specs.Responses.{polynomial}
use Rattle.gf2.specs.Feedbacks.{IsFeedback}

-- x^4 + x + 1, and its degree
code_19 : 2 ^ 4 + 2 ^ 1 + 2 ^ 0 ≡ 19
code_19 = refl

degree_19 : degree 19 ≡ 4
unfolding degree
degree_19 = refl

-- x^2 + x + 1, squared
square_7 : times 7 7 ≡ 21
unfolding times
square_7 = refl

-- 1000101 under x^4 + x + 1
response_is : polynomial (true ∷ false ∷ false ∷ false ∷ true ∷ false ∷ true ∷ []) ≡ 2 ^ 6 + 2 ^ 2 + 2 ^ 0
unfolding polynomial
response_is = refl

response_leaves : residue 19 (polynomial (true ∷ false ∷ false ∷ false ∷ true ∷ false ∷ true ∷ [])) ≡ 9
unfolding residue polynomial
response_leaves = refl

-- x has the order 15 under x^4 + x + 1, which is primitive, and 5 under x^4 + x^3 + x^2 + x + 1, which is not
order_19 : residue 19 (2 ^ 15) ≡ 1
unfolding residue
order_19 = refl

order_31 : residue 31 (2 ^ 5) ≡ 1
unfolding residue
order_31 = refl

-- a long response
ones_19 : residue 19 (2 ^ 300 - 1) ≡ 0
unfolding residue
ones_19 = refl

-- x^4 + x^2 + 1 is no feedback, and neither is x^25
reducible_21 : Reducible 21
unfolding degree times
reducible_21 = (7, omega arith, omega arith, (7, refl))

no_21 : IsFeedback 21 → ⊥
no_21 f = f.irreducible.1 reducible_21

no_33554432 : IsFeedback 33554432 → ⊥
unfolding degree
no_33554432 f = let most = f.most in omega arith
