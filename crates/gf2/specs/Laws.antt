-- The laws that the definitions keep, each proved once; the contracts of public functions name them. Assumes nothing.
use Rattle.std.specs.Prelude.{◌≡◌, ℕ, ◌+◌, ◌-◌, ◌*◌, ◌^◌, ◌<◌, Bool, false, ◌↔◌, List, length, bit_xor, slice_index_or}
use Rattle.gf2.specs.Polynomials.{times, degree, coefficient, Divides, Division, residue}
use Rattle.gf2.specs.Responses.{bit, polynomial}

pub record ProductLaws : Type 0 where
  pub one : (a : ℕ) → times 1 a ≡ a
  pub shifts : (a b : ℕ) → times (2 * a) b ≡ 2 * times a b
  pub commutes : (a b : ℕ) → times a b ≡ times b a
  pub associates : (a b c : ℕ) → times (times a b) c ≡ times a (times b c)
  pub distributes : (a b c : ℕ) → times a (bit_xor b c) ≡ bit_xor (times a b) (times a c)
  pub degrees : (a b : ℕ) → 0 < a → 0 < b → degree (times a b) ≡ degree a + degree b

-- every polynomial has one quotient and one remainder by f
pub record DivisionLaws (f : ℕ) : Type 0 where
  pub exists : (p : ℕ) → (q : ℕ) × (r : ℕ) × Division p f q r
  pub unique : (p q r s t : ℕ) → Division p f q r → Division p f s t → (q ≡ s) × (r ≡ t)

pub record ResidueLaws (f : ℕ) : Type 0 where
  -- it is the remainder
  pub remainder : (p : ℕ) → (q : ℕ) × Division p f q (residue f p)
  pub below : (p : ℕ) → residue f p < 2 ^ degree f
  pub sum : (a b : ℕ) → residue f (bit_xor a b) ≡ bit_xor (residue f a) (residue f b)
  -- one clock: the residue of x·p + c, from that of p
  pub clock : (p c : ℕ) → c < 2 → residue f (2 * p + c) ≡ residue f (2 * residue f p + c)
  pub divides : (p : ℕ) → (residue f p ≡ 0) ↔ Divides f p
  pub equal : (a b : ℕ) → (residue f a ≡ residue f b) ↔ Divides f (bit_xor a b)

pub record ResponseLaws : Type 0 where
  -- the bit of clock j of a response of n bits is the coefficient of x^(n-1-j)
  pub bits : (bits : List Bool) (j : ℕ) → j < length bits → coefficient (polynomial bits) (length bits - 1 - j) ≡ bit (slice_index_or bits j false)
  -- and there are no coefficients from x^n on
  pub below : (bits : List Bool) → polynomial bits < 2 ^ length bits
