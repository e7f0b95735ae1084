-- What a choice says of irreducible polynomials.
use Rattle.std.proofs.Common.{◌≡◌, ℕ, ◌+◌, ◌*◌, ◌^◌, ◌<◌, ◌≤◌, List, Ok, Err, Result, inl, inr, arith}
use Rattle.refusal.specs.declared.reason.Refusal.{Refusal}
use Rattle.gf2.specs.Feedbacks.{IsFeedback}
use Rattle.gf2.specs.declared.feedback.Feedback.{Feedback}
use Rattle.gf2.proofs.Feedbacks.{is_feedback}
use Rattle.faults.specs.Meaning.{Faults}
use Rattle.apart.specs.Apart.{KeepsApart}
use Rattle.apart.proofs.Pairing.{equal_confused}
use Rattle.choice.specs.Choosing.{Fits, Tried, Degrees, Room, Chooses}
use Rattle.choice.specs.Exactness.{Serves, NoneServes, ExactChoice, Exact}
use Rattle.choice.specs.declared.answer.Choice.{Choice}
use Rattle.choice.specs.Progress.{Progress}
use Rattle.choice.proofs.Counting.{counts_unique}
use Rattle.choice.proofs.Steps.{progress_begins, progress_other, progress_clash, progress_picks, progress_ends}

module _ (m : Faults) (low high : ℕ) (most : high ≤ 24) where
  serves_fits : (f : ℕ) → Serves m low high f → Fits m low high f
  serves_fits f p = record { feedback = is_feedback f p.irreducible (omega (arith, p.within)); reaches = p.reaches; within = p.within; apart = p.apart }

  fits_serves : (f : ℕ) → Fits m low high f → Serves m low high f
  fits_serves f p = record { irreducible = p.feedback.irreducible; reaches = p.reaches; within = p.within; apart = p.apart }

  module _ (code tried : ℕ) (p : Progress m low high code tried) where
    pub progress_exact : (f : Feedback) → f.code ≡ code → IsFeedback code → KeepsApart code m → code < 2 * 2 ^ high → ExactChoice m low high (record { feedback = f; tried = tried + 1 })
    progress_exact f is i apart below =
        let c = progress_picks m low high code tried p f is i apart below in
        record {
          serves = fits_serves f.code c.chosen.fits;
          least = λ g s. c.chosen.least g (serves_fits g s);
          only = λ n u. counts_unique (Tried low f.code) n (tried + 1) u c.tried;
        }

    pub progress_ends_exact : 2 * 2 ^ high ≤ code → NoneServes m low high
    progress_ends_exact h f s = progress_ends m low high code tried h p f (serves_fits f s)

-- any answer to a choice is exact, where degrees and room are in order
pub chooses_exact : (m : Faults) (low high : ℕ) (before after : List ℕ) → Degrees low high → Room m before → (r : Result Choice Refusal) → Chooses m low high before after r → Exact m low high r
chooses_exact m low high before after d room (Ok c) k = record {
  serves = fits_serves m low high d.most c.feedback.code k.found.picks.chosen.fits;
  least = λ f s. k.found.picks.chosen.least f (serves_fits m low high d.most f s);
  only = λ n u. counts_unique (Tried low c.feedback.code) n c.tried u k.found.picks.tried;
}
chooses_exact m low high before after d room (Err e) (inl (is, no-degrees, same)) = absurd (no-degrees d)
chooses_exact m low high before after d room (Err e) (inr (inl (is, d', no_room, same))) = absurd (no_room room)
chooses_exact m low high before after d room (Err e) (inr (inr (inl (a, b, is, d', r', first, same)))) =
    (inl (a, b, is), λ f s. s.apart a b (equal_confused f m a b first.holds))
chooses_exact m low high before after d room (Err e) (inr (inr (inr (is, d', r', distinct, none, words)))) =
    (inr is, λ f s. none f (serves_fits m low high d.most f s))

-- what the loop over the codes goes by
pub ruleset progress = (progress_begins, progress_other, progress_clash, progress_picks, progress_exact, progress_ends, progress_ends_exact)
