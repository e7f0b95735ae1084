-- What a test answers.
use Rattle.std.proofs.Common.{◌≡◌, ℕ, true, false, Decides, refl, arith}

-- what does not hold is decided by `false`
pub refuted : {P : Type 0} → (P → ⊥) → Decides false P
refuted n = (λ e. let z : ◌≡◌ {A = ℕ} 0 1 = cc in absurd (omega arith), λ p. absurd (n p))

-- and what holds by `true`
pub confirmed : {P : Type 0} → P → Decides true P
confirmed p = (λ _. p, λ _. refl)

pub denied : {P : Type 0} → Decides false P → P → ⊥
denied d p = let e = d.1 p in let z : ◌≡◌ {A = ℕ} 0 1 = cc in omega arith
