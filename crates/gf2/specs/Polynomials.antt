-- Polynomials over GF(2). Each is a number, its code: the binary digit of weight 2^i is the coefficient of x^i, so that
-- x^4 + x + 1 is 19. The sum of two is their `bit_xor`; x·p is 2 * p, and x·p + c is 2 * p + c for a digit c. Assumes nothing.
use Rattle.std.specs.Prelude.{◌≡◌, ℕ, zero, suc, ◌+◌, ◌-◌, ◌*◌, ◌/◌, ◌%◌, ◌^◌, ◌<◌, ◌≤◌, min, bit_xor}

-- Goes through the binary digits of a number a from the highest down: begins with z, and takes r to g r c at each digit c.
-- (The number n only bounds the recursion, and a itself is bound enough.)
unfoldable pub horner_in : {A : Type 0} → A → (A → ℕ → A) → ℕ → ℕ → A
horner_in z g n zero = z
horner_in z g zero (suc a) = z
horner_in z g (suc n) (suc a) = g (horner_in z g n (suc a / 2)) (suc a % 2)

unfoldable pub horner : {A : Type 0} → A → (A → ℕ → A) → ℕ → A
unfolding horner_in
horner z g a = horner_in z g a a

-- the coefficient of x^i
abbrev pub coefficient : ℕ → ℕ → ℕ
coefficient p i = p / 2 ^ i % 2

-- the product, without carries: (x·a + c)·b is x·(a·b) + c·b
unfoldable pub times : ℕ → ℕ → ℕ
unfolding horner
times a b = horner 0 (λ t c. bit_xor (2 * t) (c * b)) a

-- the degree: how many binary digits f has, less one (and 0 for the polynomial 0)
unfoldable pub degree : ℕ → ℕ
unfolding horner
degree f = horner 0 (λ n c. n + 1) f - 1

-- some polynomial times f is p
abbrev pub Divides : ℕ → ℕ → Type 0
Divides f p = (q : ℕ) × (times q f ≡ p)

-- a polynomial of a smaller degree, from 1 up, divides f
abbrev pub Reducible : ℕ → Type 0
Reducible f = (g : ℕ) × (1 ≤ degree g) × (degree g < degree f) × Divides g f

-- the degree is at least 1, and no polynomial of a smaller degree, from 1 up, divides f
abbrev pub Irreducible : ℕ → Type 0
Irreducible f = (1 ≤ degree f) × (Reducible f → ⊥)

-- p is q·f + r, and r has no coefficient from x^(degree f) on: it is zero or of a smaller degree than f
pub record Division (p f q r : ℕ) : Type 0 where
  pub whole : p ≡ bit_xor (times q f) r
  pub rest : r < 2 ^ degree f

-- the remainder of x·r + c, where r is one already: f is taken off where that makes it smaller
unfoldable pub clocked : ℕ → ℕ → ℕ → ℕ
clocked f r c = min (2 * r + c) (bit_xor (2 * r + c) f)

-- what is left of p divided by f: its coefficients are clocked in from the highest down
unfoldable pub residue : ℕ → ℕ → ℕ
unfolding horner clocked
residue f p = horner 0 (clocked f) p
