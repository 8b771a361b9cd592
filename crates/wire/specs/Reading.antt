-- Reading a varint from the front of some bytes (PB): the number and how many bytes it took. More than ten bytes or more than 64 bits is seen at the byte
-- after which nothing could make it good.
use Rattle.std.specs.Prelude.{ℕ, zero, suc, ◌+◌, ◌*◌, ◌%◌, ◌≡◌, refl, cond, List, [], ◌∷◌, ltb}

pub data VarintRead : Type 0 where
  good : ℕ → ℕ → VarintRead  -- the number, and how many bytes it took
  cut : VarintRead  -- the bytes end before it does
  over : ℕ → VarintRead  -- no continuation is good after the byte at this place

-- seven bits in front of what was read behind them
abbrev pub behind : ℕ → VarintRead → VarintRead
behind low (good n count) = good (low + 128 * n) (suc count)
behind low cut = cut
behind low (over place) = over (suc place)

-- so many bytes at most may follow the first; the last that may come is below `top`
abbrev pub read_of : ℕ → ℕ → List ℕ → VarintRead
read_of top more [] = cut
read_of top zero (b ∷ bytes) = cond (ltb b top) (good b 1) (over 0)
read_of top (suc more) (b ∷ bytes) = cond (ltb b 128) (good b 1) (behind (b % 128) (read_of top more bytes))

-- 64 bits: nine groups of seven, and one bit in the tenth byte
unfoldable pub read_varint : List ℕ → VarintRead
read_varint bytes = read_of 2 9 bytes

-- ---- a longer form of 0 reads too; an eleventh byte, and a 65th bit, are seen at the tenth byte
pub long_nought : read_varint (128 ∷ 0 ∷ 7 ∷ []) ≡ good 0 2
unfolding read_varint
long_nought = refl

pub eleven_bytes : read_varint (128 ∷ 128 ∷ 128 ∷ 128 ∷ 128 ∷ 128 ∷ 128 ∷ 128 ∷ 128 ∷ 128 ∷ 0 ∷ []) ≡ over 9
unfolding read_varint
eleven_bytes = refl

pub bit_sixty_five : read_varint (128 ∷ 128 ∷ 128 ∷ 128 ∷ 128 ∷ 128 ∷ 128 ∷ 128 ∷ 128 ∷ 2 ∷ []) ≡ over 9
unfolding read_varint
bit_sixty_five = refl
