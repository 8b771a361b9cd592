-- What stands in 32 and 64 bits (PB, "Signed Integers", "Non-varint Numbers"): bytes least significant first, zigzag.
use Rattle.std.specs.Prelude.{ℕ, zero, suc, ◌/◌, ◌%◌, ◌≡◌, refl, List, [], ◌∷◌}
use Rattle.whole.specs.Twos.{signed64}
use Rattle.words.specs.Params.{param}

-- so many bytes of a number, the least significant first
abbrev pub little : ℕ → ℕ → List ℕ
little zero n = []
little (suc more) n = n % 256 ∷ little more (n / 256)

unfoldable pub fixed32 : ℕ → List ℕ
fixed32 n = little 4 n

unfoldable pub fixed64 : ℕ → List ℕ
fixed64 n = little 8 n

-- a sint: MVT's parameter rule at 64 bits. An int goes out as its 64 bits, so that one below zero takes ten bytes
unfoldable pub zigzag : ℕ → ℕ
zigzag bits = param (signed64 bits)

-- ---- the float 1.0 by its bits; PB's table of zigzag: 0, -1, 1, -2 are 0, 1, 2, 3, and the least number is the largest
pub one_as_float : fixed32 1065353216 ≡ 0 ∷ 0 ∷ 128 ∷ 63 ∷ []
unfolding fixed32
one_as_float = refl

pub sint_nought : zigzag 0 ≡ 0
unfolding zigzag param
sint_nought = refl

pub sint_minus_one : zigzag 18446744073709551615 ≡ 1
unfolding zigzag param
sint_minus_one = refl

pub sint_one : zigzag 1 ≡ 2
unfolding zigzag param
sint_one = refl

pub sint_minus_two : zigzag 18446744073709551614 ≡ 3
unfolding zigzag param
sint_minus_two = refl

pub sint_least : zigzag 9223372036854775808 ≡ 18446744073709551615
unfolding zigzag param
sint_least = refl
