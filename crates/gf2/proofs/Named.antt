-- The laws, gathered under the names that contracts cite.
use Rattle.std.proofs.Common.{◌≡◌, ℕ, ◌+◌, ◌*◌, ◌<◌, [], sym, subst}
use Rattle.gf2.specs.Polynomials.{degree, Division, residue}
use Rattle.gf2.specs.Laws.{ProductLaws, DivisionLaws, ResidueLaws}
use Rattle.gf2.specs.Responses.{polynomial}
use Rattle.gf2.proofs.Sums.{Degree}
use Rattle.gf2.proofs.Responses.{no_bits, polynomial_none}
use Rattle.gf2.proofs.Times.{times_one, times_double, times_comm, times_assoc, times_xor_r}
use Rattle.gf2.proofs.Products.{times_none_yet, times_power_turn, word_fits, times_whole}
use Rattle.gf2.proofs.Degrees.{degree_at, product_degree}
use Rattle.gf2.proofs.Remainders.{division_zero, unique, division_more, residue_is, division_of, of_division, residue_division, residue_below, residue_xor, residue_again, residue_divides, residues_equal}

pub product_laws : ProductLaws
product_laws = record {
  one = times_one;
  shifts = times_double;
  commutes = times_comm;
  associates = times_assoc;
  distributes = times_xor_r;
  degrees = product_degree;
}

-- for the loop of `product`
pub ruleset products = (product_laws, times_none_yet, times_power_turn, word_fits, times_whole)

module _ (f : ℕ) (h : 0 < f) where
  d : Degree f (degree f)
  d = degree_at f h

  remainder : (p : ℕ) → (q : ℕ) × Division p f q (residue f p)
  remainder p = let a = residue_division (degree f) f d p in (a.0, division_of (degree f) p f a.0 (residue f p) d a.1)

  pub division_laws : DivisionLaws f
  division_laws = record {
    exists = λ p. let a = remainder p in (a.0, residue f p, a.1);
    unique = λ p q r s t a b. unique (degree f) p f q r s t d (of_division (degree f) p f q r d a) (of_division (degree f) p f s t d b);
  }

  pub residue_laws : ResidueLaws f
  residue_laws = record {
    remainder = remainder;
    below = residue_below (degree f) f d;
    sum = residue_xor (degree f) f d;
    clock = λ p c l. sym (residue_again (degree f) f d p c l);
    divides = residue_divides (degree f) f d;
    equal = residues_equal (degree f) f d;
  }

  -- a division goes on with what it has left: the next digit of the quotient, and the next remainder
  pub division_on : (p q c e s : ℕ) → c < 2 → Division p f q (residue f p) → Division (2 * residue f p + c) f e s
      → Division (2 * p + c) f (2 * q + e) (residue f (2 * p + c)) × (e < 2) × (s ≡ residue f (2 * p + c))
  division_on p q c e s l a b =
      let n = division_more (degree f) f d p q (residue f p) c e s l (of_division (degree f) p f q (residue f p) d a) (of_division (degree f) (2 * residue f p + c) f e s d b) in
      let is = residue_is (degree f) f d (2 * p + c) (2 * q + e) s n.0 in
      (subst (Division (2 * p + c) f (2 * q + e)) (sym is) (division_of (degree f) (2 * p + c) f (2 * q + e) s d n.0), n.1, sym is)

  pub division_none : Division (polynomial []) f 0 (residue f (polynomial []))
  division_none =
      let a = division_of (degree f) 0 f 0 0 d (division_zero (degree f) f d) in
      rw (no_bits f, polynomial_none) a
