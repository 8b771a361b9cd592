-- Document 01, "Tags and rollback": a text is so many bytes from a start on.
use Rattle.std.specs.Prelude.{ℕ, ◌+◌, Bool, true, false, cond, List, [], ◌∷◌, length, take, drop, leb, eqb}

-- a text has at most so many bytes
abbrev pub max_bytes : ℕ
max_bytes = 1024

abbrev pub short_text : ℕ → Bool
short_text len = leb len max_bytes

-- a text of len bytes at start lies within so many bytes
abbrev pub inside : ℕ → ℕ → ℕ → Bool
inside bytes start len = leb (start + len) bytes

-- the text of len bytes at start, or what there is of it
abbrev pub text_of : List ℕ → ℕ → ℕ → List ℕ
text_of texts start len = take len (drop start texts)

-- the list has key at its front
abbrev pub begins : List ℕ → List ℕ → Bool
begins l [] = true
begins [] (b ∷ key) = false
begins (x ∷ l) (b ∷ key) = cond (eqb x b) (begins l key) false

-- the text of len bytes at start is key
abbrev pub same_text : List ℕ → ℕ → ℕ → List ℕ → Bool
same_text texts start len key = cond (inside (length texts) start len) (cond (eqb len (length key)) (begins (drop start texts) key) false) false
