-- What `open` prints of a value that is no text, on a line of its own, to the byte. Z is a number in decimal with `-` before a negative one:
--     "value " ("float 0x" 8 hex | "double 0x" 16 hex | "int " Z | "uint " D | "sint " Z | "bool true" | "bool false" | "empty") LF
-- A float is printed as its bits, which is exact. A value is its kind, the number that its field has in the tile, and 64 bits.
use Rattle.std.specs.Prelude.{ℕ, zero, suc, ◌/◌, ◌%◌, cond, List, [], ◌∷◌, ◌++◌, eqb, ℤ, nat_abs}
use Rattle.whole.specs.Twos.{signed64}
use Rattle.printed.specs.Decimal.{decimal}
use Rattle.printed.specs.Row.{sign}
use Rattle.printed.specs.Tiles.{hex_digit}
use Rattle.opened.specs.Opened.{named, line}

-- ---- numbers
-- so many digits of a number, the most significant first, zeros before it
unfoldable pub hex_digits : ℕ → ℕ → List ℕ
hex_digits zero n = []
hex_digits (suc count) n = hex_digits count (n / 16) ++ (hex_digit (n % 16) ∷ [])

abbrev pub signed_decimal : ℤ → List ℕ
signed_decimal z = sign z ++ decimal (nat_abs z)

-- ---- words
-- "value float 0x"
abbrev pub float_head : List ℕ
float_head = 118 ∷ 97 ∷ 108 ∷ 117 ∷ 101 ∷ 32 ∷ 102 ∷ 108 ∷ 111 ∷ 97 ∷ 116 ∷ 32 ∷ 48 ∷ 120 ∷ []

-- "value double 0x"
abbrev pub double_head : List ℕ
double_head = 118 ∷ 97 ∷ 108 ∷ 117 ∷ 101 ∷ 32 ∷ 100 ∷ 111 ∷ 117 ∷ 98 ∷ 108 ∷ 101 ∷ 32 ∷ 48 ∷ 120 ∷ []

-- "value int "
abbrev pub int_head : List ℕ
int_head = 118 ∷ 97 ∷ 108 ∷ 117 ∷ 101 ∷ 32 ∷ 105 ∷ 110 ∷ 116 ∷ 32 ∷ []

-- "value uint "
abbrev pub uint_head : List ℕ
uint_head = 118 ∷ 97 ∷ 108 ∷ 117 ∷ 101 ∷ 32 ∷ 117 ∷ 105 ∷ 110 ∷ 116 ∷ 32 ∷ []

-- "value sint "
abbrev pub sint_head : List ℕ
sint_head = 118 ∷ 97 ∷ 108 ∷ 117 ∷ 101 ∷ 32 ∷ 115 ∷ 105 ∷ 110 ∷ 116 ∷ 32 ∷ []

-- "value bool true"
abbrev pub true_words : List ℕ
true_words = 118 ∷ 97 ∷ 108 ∷ 117 ∷ 101 ∷ 32 ∷ 98 ∷ 111 ∷ 111 ∷ 108 ∷ 32 ∷ 116 ∷ 114 ∷ 117 ∷ 101 ∷ []

-- "value bool false"
abbrev pub false_words : List ℕ
false_words = 118 ∷ 97 ∷ 108 ∷ 117 ∷ 101 ∷ 32 ∷ 98 ∷ 111 ∷ 111 ∷ 108 ∷ 32 ∷ 102 ∷ 97 ∷ 108 ∷ 115 ∷ 101 ∷ []

-- a bool is false where none of its bits is set
abbrev pub bool_words : ℕ → List ℕ
bool_words bits = cond (eqb bits 0) false_words true_words

-- "value empty"
abbrev pub empty_words : List ℕ
empty_words = 118 ∷ 97 ∷ 108 ∷ 117 ∷ 101 ∷ 32 ∷ 101 ∷ 109 ∷ 112 ∷ 116 ∷ 121 ∷ []

-- ---- the line
-- the fields of a value: 2 is a float, of 32 bits, 3 a double, 4 an int, 5 a uint, 6 a sint, 7 a bool; where there is none of these, it is empty
unfoldable pub value_words : ℕ → ℕ → List ℕ
value_words kind bits =
    cond (eqb kind 2) (float_head ++ hex_digits 8 (bits % 4294967296))
    (cond (eqb kind 3) (double_head ++ hex_digits 16 bits)
    (cond (eqb kind 4) (int_head ++ signed_decimal (signed64 bits))
    (cond (eqb kind 5) (named uint_head bits)
    (cond (eqb kind 6) (sint_head ++ signed_decimal (signed64 bits))
    (cond (eqb kind 7) (bool_words bits) empty_words)))))

abbrev pub value_text : ℕ → ℕ → List ℕ
value_text kind bits = line (value_words kind bits)

-- what a text is lent for: the longest is a sint, 11 bytes of words, a sign, at most twenty digits, and the line's end
abbrev pub value_room : ℕ
value_room = 33
