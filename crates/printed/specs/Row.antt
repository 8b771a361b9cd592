-- Numbers on one line, as the replays print them: in decimal, `-` before a negative one, a blank between two, the line's end behind the last. No
-- numbers are no line.
use Rattle.std.specs.Prelude.{ℕ, suc, ◌+◌, ◌*◌, cond, List, [], ◌∷◌, ◌++◌, eqb, ℤ, pos, negsuc, nat_abs, length}
use Rattle.printed.specs.Decimal.{ended}
use Rattle.printed.specs.Printed.{newline, space}

-- "-", where there is one
abbrev pub sign : ℤ → List ℕ
sign (pos n) = []
sign (negsuc n) = 45 ∷ []

-- with a byte behind it
unfoldable pub signed_ended : ℤ → ℕ → List ℕ
signed_ended z end = sign z ++ ended (nat_abs z) end

-- of n numbers, the line ends behind the last
abbrev pub behind : ℕ → ℕ → ℕ
behind i n = cond (eqb (i + 1) n) newline space

-- these are the numbers from index i on, of n
abbrev pub row_from : ℕ → ℕ → List ℤ → List ℕ
row_from n i [] = []
row_from n i (z ∷ zs) = signed_ended z (behind i n) ++ row_from n (suc i) zs

abbrev pub row_text : List ℤ → List ℕ
row_text zs = row_from (length zs) 0 zs

-- what a text is lent for: a sign, at most twenty digits, and what stands behind them
abbrev pub row_room : List ℤ → ℕ
row_room zs = 22 * length zs
