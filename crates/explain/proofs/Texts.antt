-- A text that was made, said in other words.
use Rattle.std.proofs.Common.{◌≡◌, ℕ, List, IfOk, Ok, Err, string_bytes, Result, String, ◌∙◌}

-- a text that is a is b, where a is b
pub retold : {Z E : Type 0} (r : Result (String Z) E) {a b : List ℕ} → IfOk r (λ t. string_bytes t ≡ a) → a ≡ b → IfOk r (λ t. string_bytes t ≡ b)
retold (Ok t) m e = m ∙ e
retold (Err x) m e = tt
