-- The quotient of a response, while it fits 64 bits. Assumes nothing.
use Rattle.std.specs.Prelude.{ℕ, ◌+◌, ◌*◌, ◌^◌, ◌<◌, ◌≤◌, if◌then◌else◌, Some, None, Option, MatchOption, nat_lt}
use Rattle.gf2.specs.Polynomials.{Division, residue}

-- the quotient of p by f, or none where it is 2^64 or more
abbrev pub Quotient : ℕ → ℕ → Option ℕ → Type 0
Quotient f p o =
    MatchOption o ((q : ℕ) × (2 ^ 64 ≤ q) × Division p f q (residue f p)) (λ q. (q < 2 ^ 64) × Division p f q (residue f p))

-- one binary digit more, while 64 bits hold it
abbrev pub appended : Option ℕ → ℕ → Option ℕ
appended None d = None
appended (Some q) d = if nat_lt (2 * q + d) (2 ^ 64) then Some (2 * q + d) else None
