-- A response is a list of bits, the bit of clock 0 first. Assumes nothing.
use Rattle.std.specs.Prelude.{◌≡◌, ℕ, ◌+◌, ◌*◌, ◌<◌, Bool, true, false, List, map, length, take, fold, slice_index_or}
use Rattle.std.specs.List.{range_with_len}
use Rattle.gf2.specs.Polynomials.{residue}

abbrev pub bit : Bool → ℕ
bit true = 1
bit false = 0

-- the polynomial of a response: zero for no bits, and one clock more takes p to x·p + c. So the first bit has the highest weight.
unfoldable pub polynomial : List Bool → ℕ
polynomial bits = fold (λ p c. 2 * p + bit c) 0 bits

-- the response of n bits that has w j at clock j
unfoldable pub response : ℕ → (ℕ → Bool) → ℕ
unfolding polynomial
response n w = polynomial (map w (range_with_len 0 n))

-- where r is the residue of the first i bits of a response, and c is the next one, s is the residue of the first i + 1
abbrev pub Longer : ℕ → ℕ → Bool → ℕ → Type 0
Longer f r c s =
    (bits : List Bool) (i : ℕ) → i < length bits → slice_index_or bits i false ≡ c → r ≡ residue f (polynomial (take i bits)) → s ≡ residue f (polynomial (take (i + 1) bits))
