-- Words, the last one first, each with its place from there.
use Rattle.std.proofs.Common.{◌≡◌, ℕ, ◌+◌, ◌-◌, ◌<◌, Bool, true, false, List, length, get_or, reverse, sym, ap, ◌∙◌, ap₂, le_refl, arith}
use lib.Bits.{bit_xor}
use Rattle.std.specs.List.{enumerate_from}
use Rattle.std.proofs.lemmas.List.{length-reverse, get_or-reverse, get_or_default}
use Rattle.std.proofs.lemmas.List.FromFn.{length-enumerate_from, get_or-enumerate_from}
use Rattle.faults.specs.Picking.{picked}
use Rattle.faults.proofs.Errors.{picked_wrong, picked_right}

abbrev pub last_first : List ℕ → List (ℕ × ℕ)
last_first words = enumerate_from 0 (reverse words)

pub length-last_first : (words : List ℕ) → length (last_first words) ≡ length words
length-last_first words = length-enumerate_from 0 (reverse words) ∙ length-reverse words

-- the one at place k
pub record At (words : List ℕ) (k : ℕ) (p : ℕ × ℕ) : Type 0 where
  pub within : k < length words
  pub place : p.0 ≡ k
  pub word : p.1 ≡ get_or words (length words - 1 - k) 0

pub at : (words : List ℕ) (k : ℕ) (p : ℕ × ℕ) → k < length (last_first words) → p ≡ get_or (last_first words) k p → At words k p
at words k p l e =
    let m : k < length words = omega (arith, length-last_first words) in
    let r : k < length (reverse words) = omega (arith, length-reverse words) in
    let is : p ≡ (0 + k, get_or (reverse words) k p.1) = e ∙ get_or-enumerate_from 0 (reverse words) k p r in
    record {
      within = m;
      place = ap (λ q. q.0) is ∙ omega arith;
      word = ap (λ q. q.1) is ∙ get_or-reverse words k p.1 m ∙ get_or_default words (length words - 1 - k) p.1 0 (omega arith);
    }

-- what it adds to what the clocks before it pick, where the response is 1 and where it is 0
module _ (words : List ℕ) (w : ℕ → Bool) (k : ℕ) (p : ℕ × ℕ) (sum m : ℕ) (a : At words k p) (s : sum ≡ picked (length words) words w k) (e : m ≡ k + 1) where
  pub picked_one : w p.0 ≡ true → bit_xor sum p.1 ≡ picked (length words) words w m
  picked_one one =
      ap₂ bit_xor s a.word ∙ sym (picked_wrong (length words) words w k a.within (le_refl (length words)) (ap w (sym a.place) ∙ one))
      ∙ ap (picked (length words) words w) (sym e)

  pub picked_zero : w p.0 ≡ false → sum ≡ picked (length words) words w m
  picked_zero none = s ∙ sym (picked_right (length words) words w k (ap w (sym a.place) ∙ none)) ∙ ap (picked (length words) words w) (sym e)
