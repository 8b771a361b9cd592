-- oracle/README.md, "Tile script": "a line for each operation, `ok` or `refused N`, then `bytes N` and the bytes in lowercase hex, 32 to a line."
use Rattle.std.specs.Prelude.{ℕ, suc, ◌+◌, ◌*◌, ◌/◌, ◌%◌, Bool, true, cond, List, [], ◌∷◌, ◌++◌, ltb, eqb, length}
use Rattle.printed.specs.Decimal.{ended}
use Rattle.printed.specs.Printed.{newline, refused_head}

-- "ok", and the line's end
abbrev pub ok_line : List ℕ
ok_line = 111 ∷ 107 ∷ 10 ∷ []

-- 0 is an accepted operation, another number its refusal's
abbrev pub outcome_line : ℕ → List ℕ
outcome_line n = cond (eqb n 0) ok_line (refused_head ++ ended n newline)

abbrev pub outcome_lines : List ℕ → List ℕ
outcome_lines [] = []
outcome_lines (n ∷ ns) = outcome_line n ++ outcome_lines ns

-- "bytes "
abbrev pub bytes_head : List ℕ
bytes_head = 98 ∷ 121 ∷ 116 ∷ 101 ∷ 115 ∷ 32 ∷ []

-- 0 to 9, a to f
abbrev pub hex_digit : ℕ → ℕ
hex_digit n = cond (ltb n 10) (48 + n) (87 + n)

-- a byte, and the line's end where it has one
abbrev pub hex_byte : ℕ → Bool → List ℕ
hex_byte b ends = hex_digit (b / 16) ∷ hex_digit (b % 16) ∷ cond ends (newline ∷ []) []

-- of n bytes, the line ends behind every 32nd and behind the last
abbrev pub ends_line : ℕ → ℕ → Bool
ends_line i n = cond (eqb (i % 32) 31) true (eqb (i + 1) n)

-- these are the bytes from index i on, of n
abbrev pub hex_from : ℕ → ℕ → List ℕ → List ℕ
hex_from n i [] = []
hex_from n i (b ∷ bs) = hex_byte b (ends_line i n) ++ hex_from n (suc i) bs

abbrev pub hex_lines : List ℕ → List ℕ
hex_lines bs = hex_from (length bs) 0 bs

abbrev pub tile_text : List ℕ → List ℕ → List ℕ
tile_text outcomes bytes = outcome_lines outcomes ++ bytes_head ++ ended (length bytes) newline ++ hex_lines bytes

-- what a text is lent for: an outcome takes at most 29 bytes, the count with its head 27, a byte 3
abbrev pub tile_room : List ℕ → List ℕ → ℕ
tile_room outcomes bytes = 27 + 29 * length outcomes + 3 * length bytes

-- how long a text the programs lend for a tile's answer
abbrev pub tile_length : ℕ
tile_length = 450000
