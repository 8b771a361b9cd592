-- What is printed: sizes as numbers of a row, and how many bytes an answer has.
use Rattle.std.specs.Prelude.{ℕ, cond, List, leb, ltb, ℤ, pos, negsuc, length}
use Rattle.printed.specs.Printed.{words_text, words_room, words_length}
use Rattle.printed.specs.Tiles.{tile_text, tile_room, tile_length}

-- itself, and -1 where it is beyond what 64 bits hold beside a sign
unfoldable pub size_of : ℕ → ℤ
size_of n = cond (ltb n 9223372036854775808) (pos n) (negsuc 0)

-- none where the room that the bytes are lent for exceeds the text's length
unfoldable pub printed : ℕ → List ℕ → ℕ → ℕ
printed room bytes text = cond (leb room text) (length bytes) 0

-- words, and a tile's outcomes and bytes, in the texts that the programs lend
abbrev pub words_printed : List ℕ → ℕ
words_printed ws = printed (words_room ws) (words_text ws) words_length

abbrev pub tile_printed : List ℕ → List ℕ → ℕ
tile_printed os bs = printed (tile_room os bs) (tile_text os bs) tile_length
