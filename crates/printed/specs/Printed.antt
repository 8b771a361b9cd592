-- Document 01, "Sample jobs": "The program prints `words N`, then each word in decimal on its own line; a refusal is one line, `refused R at P`,
-- with P the accepted points."
use Rattle.std.specs.Prelude.{ℕ, ◌+◌, ◌*◌, ◌≤◌, ◌≡◌, cond, List, [], ◌∷◌, ◌++◌, leb, length, take}
use Rattle.promise.specs.Answers.{Written, kept}
use Rattle.promise.specs.Laid.{lay}
use Rattle.printed.specs.Decimal.{ended}

-- the ASCII codes of what is printed beside the numbers
abbrev pub newline : ℕ
newline = 10

abbrev pub space : ℕ
space = 32

-- "words "
abbrev pub words_head : List ℕ
words_head = 119 ∷ 111 ∷ 114 ∷ 100 ∷ 115 ∷ 32 ∷ []

-- each number on its own line
abbrev pub column : List ℕ → List ℕ
column [] = []
column (w ∷ ws) = ended w newline ++ column ws

abbrev pub words_text : List ℕ → List ℕ
words_text ws = words_head ++ ended (length ws) newline ++ column ws

-- "refused "
abbrev pub refused_head : List ℕ
refused_head = 114 ∷ 101 ∷ 102 ∷ 117 ∷ 115 ∷ 101 ∷ 100 ∷ 32 ∷ []

-- "at "
abbrev pub at_head : List ℕ
at_head = 97 ∷ 116 ∷ 32 ∷ []

abbrev pub refused_text : ℕ → ℕ → List ℕ
refused_text number points = refused_head ++ ended number space ++ at_head ++ ended points newline

-- what a text is lent for: a line has at most twenty digits and its end
abbrev pub words_room : List ℕ → ℕ
words_room ws = 27 + 21 * length ws

abbrev pub refused_room : ℕ
refused_room = 53

-- how long a text the programs lend for words: the room of 16,384
abbrev pub words_length : ℕ
words_length = 344091

-- the bytes at the front of a text of that room, and how many they are; nothing in a shorter one
abbrev pub shown : ℕ → List ℕ → List ℕ → Written ℕ (List ℕ)
shown room bytes text = cond (leb room (length text)) (record { answer = length bytes; memory = lay 0 bytes text }) (kept 0 text)

-- the text begins with these bytes, and r counts them: what a program writes
pub record Told (bytes : List ℕ) (r : ℕ) (text : List ℕ) : Type 0 where
  pub count : r ≡ length bytes
  pub inside : r ≤ length text
  pub front : take r text ≡ bytes
