-- PB, "Base 128 Varints": seven bits a byte, the least significant group first, the high bit set on every byte but the last.
use Rattle.std.specs.Prelude.{ℕ, zero, suc, ◌+◌, ◌/◌, ◌%◌, ◌≡◌, refl, cond, List, [], ◌∷◌, ltb}

-- so many bytes at most may follow the first
abbrev pub varint_of : ℕ → ℕ → List ℕ
varint_of zero n = n ∷ []
varint_of (suc more) n = cond (ltb n 128) (n ∷ []) ((n % 128 + 128) ∷ varint_of more (n / 128))

-- a number of 64 bits: ten groups of seven hold it. How many bytes it takes is `length (varint n)`.
unfoldable pub varint : ℕ → List ℕ
varint n = varint_of 9 n

-- ---- PB's own examples, and the ends of the range
pub one : varint 1 ≡ 1 ∷ []
unfolding varint
one = refl

pub one_hundred_fifty : varint 150 ≡ 150 ∷ 1 ∷ []
unfolding varint
one_hundred_fifty = refl

pub nought : varint 0 ≡ 0 ∷ []
unfolding varint
nought = refl

pub largest : varint 18446744073709551615 ≡ 255 ∷ 255 ∷ 255 ∷ 255 ∷ 255 ∷ 255 ∷ 255 ∷ 255 ∷ 255 ∷ 1 ∷ []
unfolding varint
largest = refl
