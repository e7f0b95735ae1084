use Rattle.std.proofs.Common.{ℕ, rules, refl, tests, arith, ◌≡◌, ◌≢◌, ◌+◌, ◌*◌, ◌^◌, ◌-◌}
use Rattle.std.proofs.lemmas.Iterator.{cases_from_all, YieldsList-from_range}
use Rattle.std.proofs.lemmas.Nat.{one_shl}
use Rattle.gf2.specs.Polynomials.{residue}
use Rattle.gf2.proofs.Ranges.{all_in_range}
use Rattle.gf2.proofs.irreducible.has_no_odd_factor.Goals as goal

pub returns : goal.returns
returns c =
    let shifted = one_shl c.args.most 32 (omega arith) in
    let left : ℕ → Type 0 = λ h. residue (2 * h + 1) c.args.code ≢ 0 in
    let none : ℕ → Type 0 = λ h. residue (2 * h + 1) c.args.code ≡ 0 in
    let told = cases_from_all _ _ _ left none c.all.ensures.ran (YieldsList-from_range 1 _ (2 ^ c.args.most - 1) refl (omega arith)) (λ x q k. search (rules, tests)) (λ x q k. search (rules, tests)) in
    all_in_range left none (λ h l n. l n) 1 (2 ^ c.args.most) c.all.result told
