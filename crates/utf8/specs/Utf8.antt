-- The Unicode Standard, section 3.9: a text is well-formed UTF-8 (D84) if it is byte sequences of table 3-7, "Well-Formed UTF-8 Byte Sequences", one behind
-- the other and nothing else.
use Rattle.std.specs.Prelude.{ℕ, Bool, true, false, cond, ◌&&◌, List, [], ◌∷◌, leb}

-- the bytes from low to high
pub record Range : Type 0 where
  pub low : ℕ
  pub high : ℕ

infix 30 ◌to◌
abbrev pub ◌to◌ : ℕ → ℕ → Range
low to high = record { low = low; high = high }

abbrev pub within : Range → ℕ → Bool
within r b = leb r.low b && leb b r.high

-- a row of the table: the first byte, and those behind it
pub record Row : Type 0 where
  pub first : Range
  pub behind : List Range

abbrev pub row : Range → List Range → Row
row first behind = record { first = first; behind = behind }

-- the range of a byte that is a sequence by itself
abbrev pub ascii : Range
ascii = 0x00 to 0x7F

-- the range of the third and the fourth byte in every row, and of the second in most
abbrev pub tail : Range
tail = 0x80 to 0xBF

-- table 3-7, row by row
abbrev pub rows : List Row
rows =
    row ascii []
    ∷ row (0xC2 to 0xDF) (tail ∷ [])
    ∷ row (0xE0 to 0xE0) ((0xA0 to 0xBF) ∷ tail ∷ [])
    ∷ row (0xE1 to 0xEC) (tail ∷ tail ∷ [])
    ∷ row (0xED to 0xED) ((0x80 to 0x9F) ∷ tail ∷ [])
    ∷ row (0xEE to 0xEF) (tail ∷ tail ∷ [])
    ∷ row (0xF0 to 0xF0) ((0x90 to 0xBF) ∷ tail ∷ tail ∷ [])
    ∷ row (0xF1 to 0xF3) (tail ∷ tail ∷ tail ∷ [])
    ∷ row (0xF4 to 0xF4) ((0x80 to 0x8F) ∷ tail ∷ tail ∷ [])
    ∷ []

-- what has to come behind a first byte, by its row; a byte that is first in no row begins nothing
abbrev pub by_row : List Row → ℕ → (List Range → Bool) → Bool
by_row [] a go = false
by_row (r ∷ rs) a go = cond (within r.first a) (go r.behind) (by_row rs a go)

-- a byte of each of these ranges, and behind them sequences of the table
abbrev pub awaits : List Range → List ℕ → Bool
awaits [] [] = true
awaits (r ∷ rs) [] = false
awaits [] (a ∷ bs) = by_row rows a (λ rs. awaits rs bs)
awaits (r ∷ rs) (b ∷ bs) = cond (within r b) (awaits rs bs) false

abbrev pub is_utf8 : List ℕ → Bool
is_utf8 bs = awaits [] bs
