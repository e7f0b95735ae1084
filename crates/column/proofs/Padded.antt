-- What `{:>w$}` writes of a number.
use Rattle.std.proofs.Common.{◌≡◌, ℕ, zero, suc, ◌-◌, ◌∷◌, length, replicate, decimal, refl, ap, arith, append-nil, ne_eqb}
use Rattle.std.specs.Char.{encode_utf8}
use Rattle.std.specs.Fmt.{char_count, format_spec, styled_decimal, padded_integral}
use Rattle.std.specs.List.{repeat}
use Rattle.column.specs.Column.{column}

spaces : (n : ℕ) → repeat n (encode_utf8 32) ≡ replicate n 32
unfolding encode_utf8
spaces zero = refl
spaces (suc n) = ap (λ xs. 32 ∷ xs) (spaces n)

pub styled_right : (w p v : ℕ) → styled_decimal (format_spec 32 3 0 w p) v ≡ column w v
unfolding padded_integral char_count column
styled_right zero p v = let none : 0 - length (decimal v) ≡ 0 = omega arith in rw none refl
styled_right (suc w) p v =
    let before : suc w - length (decimal v) - 0 - 0 ≡ suc w - length (decimal v) = omega arith in
    let after : suc w - length (decimal v) - (suc w - length (decimal v)) ≡ 0 = omega arith in
    rw (ne_eqb (suc w) 0 (omega arith), before, after) (simp (spaces, append-nil))
