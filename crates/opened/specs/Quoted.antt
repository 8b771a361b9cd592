-- How `open` prints the bytes of a text, between its quotes, to the byte:
--     "  as \"    \  as \\    20..7E  as they are    80..FF  as they are where the whole text is well-formed UTF-8, else \xhh    all others \xhh
-- A long text is printed in portions; each is told whether the whole is well-formed.
use Rattle.std.specs.Prelude.{ℕ, ◌*◌, Bool, cond, ◌&&◌, ◌||◌, List, [], ◌∷◌, ◌++◌, eqb, leb, length}
use Rattle.opened.specs.Values.{hex_digits}

abbrev pub quote : ℕ
quote = 34

abbrev pub backslash : ℕ
backslash = 92

-- "\x"
abbrev pub hex_head : List ℕ
hex_head = 92 ∷ 120 ∷ []

-- the two bytes that stand behind a backslash
abbrev pub is_marked : ℕ → Bool
is_marked b = eqb b quote || eqb b backslash

-- the others that stand as they are: 20..7E, and 80..FF in a text that is well-formed
abbrev pub is_plain : Bool → ℕ → Bool
is_plain isText b = (leb 32 b && leb b 126) || (leb 128 b && isText)

-- a byte
unfoldable pub escaped : Bool → ℕ → List ℕ
escaped isText b = cond (is_marked b) (backslash ∷ b ∷ []) (cond (is_plain isText b) (b ∷ []) (hex_head ++ hex_digits 2 b))

abbrev pub quoted_text : Bool → List ℕ → List ℕ
quoted_text isText [] = []
quoted_text isText (b ∷ bs) = escaped isText b ++ quoted_text isText bs

-- what a text is lent for: a byte takes at most four
abbrev pub quoted_room : List ℕ → ℕ
quoted_room bs = 4 * length bs
