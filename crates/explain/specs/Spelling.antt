-- A polynomial in writing: x^4 + x + 1. Assumes nothing.
use Rattle.std.specs.Prelude.{ℕ, zero, suc, if◌then◌else◌, List, [], ◌∷◌, ◌++◌, codes, decimal, ◌==◌}
use Rattle.gf2.specs.Polynomials.{coefficient}

-- x^i
abbrev pub power : ℕ → List ℕ
power zero = codes "1"
power (suc zero) = codes "x"
power (suc (suc i)) = codes "x^" ++ decimal (suc (suc i))

-- the exponents below n with coefficient 1, from the highest down
unfoldable pub exponents : ℕ → ℕ → List ℕ
exponents zero p = []
exponents (suc n) p = if coefficient p n == 1 then n ∷ exponents n p else exponents n p

-- the powers, with a plus between each and the next
abbrev pub summed : List ℕ → List ℕ
summed [] = []
summed (i ∷ []) = power i
summed (i ∷ j ∷ js) = power i ++ (codes " + " ++ summed (j ∷ js))

-- a polynomial whose code has at most 32 binary digits
abbrev pub spelled : ℕ → List ℕ
spelled code = summed (exponents 32 code)
