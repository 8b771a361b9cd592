-- Document 01: the kinds (KIND: "not 1 point, 2 line, 3 polygon") and the domain ("at most 1,048,576 words, or the lent list's length if less").
use Rattle.std.specs.Prelude.{ℕ, Bool, ◌&&◌, leb}
use Rattle.number.specs.Least.{smaller}

abbrev pub is_kind : ℕ → Bool
is_kind kind = leb 1 kind && leb kind 3

abbrev pub max_words : ℕ
max_words = 1048576

-- how many words there is room for in a lent list of that length
abbrev pub room : ℕ → ℕ
room length = smaller length max_words
