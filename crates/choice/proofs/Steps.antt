-- The steps towards the choice.
use Rattle.std.proofs.Common.{true, refl, Option, Some, None, MatchOption, replicate, false, Decides, set, length, take, ap, length-take-le, get_or-take, ◌≡◌, ℕ, ◌+◌, ◌*◌, ◌^◌, ◌<◌, ◌≤◌, ◌⊎◌, List, sym, ◌∙◌, subst, inl, inr, arith, below_more}
use Rattle.std.proofs.lemmas.Bool.{cases_order}
use Rattle.gf2.specs.Polynomials.{degree}
use Rattle.gf2.specs.Laws.{ResidueLaws}
use Rattle.gf2.specs.Feedbacks.{IsFeedback}
use Rattle.gf2.specs.declared.feedback.Feedback.{Feedback}
use Rattle.gf2.proofs.Decided.{denied}
use Rattle.gf2.proofs.Degrees.{degree_reach, reach_degree, degree_below, below_degree}
use Rattle.gf2.proofs.Feedbacks.{feedback_some}
use Rattle.faults.specs.Meaning.{Faults, entries, entry, combined}
use Rattle.apart.specs.Apart.{KeepsApart}
use Rattle.apart.specs.Residues.{Words, Residues, residues}
use Rattle.apart.proofs.Pairing.{words_none, words_more, words_all, confused_by, confused_same}
use Rattle.choice.specs.Counting.{Counts}
use Rattle.choice.specs.Choosing.{Fits, NoneFits, Chosen, Tried, Picks, Written}
use Rattle.choice.specs.Progress.{Passed, Progress}
use Rattle.choice.specs.Trials.{Clashing, Meets, Trial}
use Rattle.choice.proofs.Counting.{counts_none, counts_same, counts_more}

-- ---- the entries under one feedback

-- with the powers of x, a clash is a pair that the feedback confuses
module _ (f : ℕ) (laws : ResidueLaws f) (m : Faults) (table : List ℕ) (word : (i : ℕ) → combined m i table ≡ residues f m i) where
  pub apart_clash : KeepsApart f m → (a b : ℕ) → Clashing m table a b → ⊥
  apart_clash k a b p = k a b (confused_by f laws m a b p.differ (sym (word a) ∙ p.same ∙ word b))

  pub clash_apart : ((a b : ℕ) → Clashing m table a b → ⊥) → KeepsApart f m
  clash_apart k a b p = k a b (record { differ = p.differ; same = word a ∙ confused_same f laws m a b p ∙ sym (word b) })

  -- so the words are the residues
  pub told_apart : (o : Option (List ℕ)) → MatchOption o (((a b : ℕ) → Clashing m table a b → ⊥) → ⊥) (λ ws. ((a b : ℕ) → Clashing m table a b → ⊥) × Words m table ws)
      → MatchOption o (KeepsApart f m → ⊥) (λ ws. KeepsApart f m × Residues f m ws)
  told_apart None clash = λ k. clash (apart_clash k)
  told_apart (Some ws) told = (clash_apart told.0, λ i. told.1 i ∙ word i)

-- no entry is seen yet
pub seen_none : (m : Faults) (table : List ℕ) (n : ℕ) → Trial m table (replicate n 0) 0
unfolding Trial
seen_none m table n = record { picks = words_none m table n; apart = λ a b h. omega (arith, h) }

-- one entry more, whose word no entry before has that is of another class
pub seen_more : (m : Faults) (table ws : List ℕ) (i word class : ℕ) → i < length ws → word ≡ combined m i table → class ≡ (entry m i).class
    → Decides false ((k : ℕ) × Meets m (take i ws) word class k) → Trial m table ws i → Trial m table (set ws i word) (i + 1)
unfolding Trial
seen_more m table ws i word class long is cl none seen = record {
  picks = words_more m table ws i word long is seen.picks;
  apart = λ a b h k p. by a b p (cases_order a i) (cases_order b i) h k;
}
  where
    met : (j : ℕ) → j < i → combined m j table ≡ combined m i table → ((entry m j).class ≡ (entry m i).class → ⊥) → ⊥
    met j l e n = denied none (
      j,
      record {
        among = let le : i ≤ length ws = omega arith in rw length-take-le l;
        same = get_or-take i ws j 0 l ∙ seen.picks.first j l ∙ e ∙ sym is;
        classes = λ x. n (x ∙ cl);
      },
    )

    by : (a b : ℕ) → Clashing m table a b → (a ≡ i) ⊎ ((a < i) ⊎ (i < a)) → (b ≡ i) ⊎ ((b < i) ⊎ (i < b)) → a < i + 1 → b < i + 1 → ⊥
    by a b p (inl e) (inl f) h k = p.differ.classes (ap (λ x. (entry m x).class) (e ∙ sym f))
    by a b p (inl e) (inr (inl l)) h k = met b l (sym p.same ∙ ap (λ x. combined m x table) e) (λ x. p.differ.classes (ap (λ x. (entry m x).class) e ∙ sym x))
    by a b p (inr (inl l)) (inl f) h k = met a l (p.same ∙ ap (λ x. combined m x table) f) (λ x. p.differ.classes (x ∙ ap (λ x. (entry m x).class) (sym f)))
    by a b p (inr (inl l)) (inr (inl r)) h k = seen.apart a b l r p
    by a b p (inr (inr l)) t h k = omega arith
    by a b p s (inr (inr r)) h k = omega arith

-- an entry before has its word and is of another class
pub seen_clash : (m : Faults) (table ws : List ℕ) (i word class : ℕ) → i < length ws → i < length (entries m) → word ≡ combined m i table → class ≡ (entry m i).class
    → Decides true ((k : ℕ) × Meets m (take i ws) word class k) → Trial m table ws i → ((a b : ℕ) → Clashing m table a b → ⊥) → ⊥
unfolding Trial
seen_clash m table ws i word class long within is cl some seen none = by (some.0 refl)
  where
    by : (k : ℕ) × Meets m (take i ws) word class k → ⊥
    by (k, p) =
        let le : i ≤ length ws = omega arith in
        let before : k < i = rw length-take-le at p.among in
        none k i (record {
          differ = record { first = omega arith; second = within; classes = λ x. p.classes (x ∙ sym cl) };
          same = sym (seen.picks.first k before) ∙ sym (get_or-take i ws k 0 before) ∙ p.same ∙ is;
        })

-- all entries are seen
pub seen_all : (m : Faults) (table ws : List ℕ) (i : ℕ) → length (entries m) ≤ i → Trial m table ws i → ((a b : ℕ) → Clashing m table a b → ⊥) × Words m table ws
unfolding Trial
seen_all m table ws i all seen = (λ a b p. seen.apart a b (omega (arith, p.differ.first)) (omega (arith, p.differ.second)) p, words_all m table ws i all seen.picks)

-- what the loop over the entries goes by
pub ruleset trial = (seen_more, seen_clash, seen_all)

-- words that are as they should be, said otherwise
pub written_same : (m : Faults) (v w : ℕ → ℕ) (before after : List ℕ) → ((i : ℕ) → v i ≡ w i) → Written m v before after → Written m w before after
written_same m v w before after e p = record { each = λ i h. p.each i h ∙ e i; past = p.past }

-- ---- the feedbacks one by one

further : (low code g : ℕ) → Passed low code g → Passed low (code + 1) g
further low code g p = record { feedback = p.feedback; reaches = p.reaches; below = omega (arith, p.below) }

passed_other : (low code n : ℕ) → (IsFeedback code → ⊥) → Counts (Passed low code) n → Counts (Passed low (code + 1)) n
passed_other low code n no-feedback = counts_same (Passed low code) (Passed low (code + 1)) n (further low code) (λ g p. by g p (cases_order g code))
  where
    by : (g : ℕ) → Passed low (code + 1) g → (g ≡ code) ⊎ ((g < code) ⊎ (code < g)) → Passed low code g
    by g p (inl e) = absurd (no-feedback (subst IsFeedback e p.feedback))
    by g p (inr (inl h)) = record { feedback = p.feedback; reaches = p.reaches; below = h }
    by g p (inr (inr h)) = absurd (omega (arith, p.below))

passed_more : (low code n : ℕ) → IsFeedback code → low ≤ degree code → Counts (Passed low code) n → Counts (Passed low (code + 1)) (n + 1)
passed_more low code n i l =
    counts_more (Passed low code) (Passed low (code + 1)) n code (λ g p. p.below) (record { feedback = i; reaches = l; below = omega arith }) (further low code) (λ g p. by g p (cases_order g code))
  where
    by : (g : ℕ) → Passed low (code + 1) g → (g ≡ code) ⊎ ((g < code) ⊎ (code < g)) → Passed low code g ⊎ (g ≡ code)
    by g p (inl e) = inr e
    by g p (inr (inl h)) = inl (record { feedback = p.feedback; reaches = p.reaches; below = h })
    by g p (inr (inr h)) = absurd (omega (arith, p.below))

passed_tried : (low code n : ℕ) → Counts (Passed low (code + 1)) n → Counts (Tried low code) n
passed_tried low code n =
    counts_same (Passed low (code + 1)) (Tried low code) n
    (λ g p. record { feedback = p.feedback; reaches = p.reaches; upto = omega (arith, p.below) })
    (λ g p. record { feedback = p.feedback; reaches = p.reaches; below = omega (arith, p.upto) })

module _ (m : Faults) (low high : ℕ) where
  pub progress_begins : Progress m low high (2 ^ low) 0
  unfolding Progress
  progress_begins = record {
    from = omega arith;
    none = λ f h p. omega (arith, degree_reach f low (feedback_some f p.feedback) p.reaches);
    counted = counts_none (Passed low (2 ^ low)) (λ g p. omega (arith, p.below, degree_reach g low (feedback_some g p.feedback) p.reaches));
  }

  pub progress_ends : (code tried : ℕ) → 2 * 2 ^ high ≤ code → Progress m low high code tried → NoneFits m low high
  unfolding Progress
  progress_ends code tried h p f q = p.none f (omega (arith, degree_below f high (feedback_some f q.feedback) q.within)) q

  module _ (code tried : ℕ) (p : Progress m low high code tried) where
    reaches : IsFeedback code → low ≤ degree code
    unfolding Progress
    reaches i = reach_degree code low (feedback_some code i) p.from

    pub progress_other : (IsFeedback code → ⊥) → Progress m low high (code + 1) tried
    unfolding Progress
    progress_other no_feedback = record {
      from = omega (arith, p.from);
      none = below_more _ _ p.none (λ q. no_feedback q.feedback);
      counted = passed_other low code tried no_feedback p.counted;
    }

    pub progress_clash : IsFeedback code → (KeepsApart code m → ⊥) → Progress m low high (code + 1) (tried + 1)
    unfolding Progress
    progress_clash i clash = record {
      from = omega (arith, p.from);
      none = below_more _ _ p.none (λ q. clash q.apart);
      counted = passed_more low code tried i (reaches i) p.counted;
    }

    pub progress_picks : (f : Feedback) → f.code ≡ code → IsFeedback code → KeepsApart code m → code < 2 * 2 ^ high → Picks m low high (record { feedback = f; tried = tried + 1 })
    unfolding Progress
    progress_picks f is i apart below = record {
      chosen = subst (Chosen m low high) (sym is) (record {
        fits = record { feedback = i; reaches = reaches i; within = below_degree code high (feedback_some code i) below; apart = apart };
        least = λ g q. by g q (cases_order g code);
      });
      tried = subst (λ c. Counts (Tried low c) (tried + 1)) (sym is) (passed_tried low code (tried + 1) (passed_more low code tried i (reaches i) p.counted));
    }
      where
        by : (g : ℕ) → Fits m low high g → (g ≡ code) ⊎ ((g < code) ⊎ (code < g)) → code ≤ g
        by g q (inl e) = omega arith
        by g q (inr (inl x)) = absurd (p.none g x q)
        by g q (inr (inr x)) = omega arith
