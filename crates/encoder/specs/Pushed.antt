-- Document 01, "Adding a point": the commands that a point and a part's completion bring, each a list of one word or none.
use Rattle.std.specs.Prelude.{ℕ, ◌-◌, cond, ◌&&◌, List, [], ◌∷◌, ltb, eqb, Option, Some, None}
use Rattle.words.specs.Commands.{command_word, id_of}
use Rattle.words.specs.declared.command.Command.TheVariants.{MoveTo, LineTo, ClosePath}

-- what the code's value stands for
abbrev pub word_of : Option ℕ → List ℕ
word_of None = []
word_of (Some w) = w ∷ []

abbrev pub move_to : ℕ
move_to = id_of MoveTo

abbrev pub line_to : ℕ
line_to = id_of LineTo

abbrev pub close_path : ℕ
close_path = id_of ClosePath

-- ---- "Points: MoveTo at count 0. Lines and polygons: MoveTo at 0, LineTo at 1."
abbrev pub command : ℕ → ℕ → List ℕ
command kind count = cond (eqb count 0) (command_word move_to 1 ∷ []) (cond (eqb count 1) (cond (eqb kind 1) [] (command_word line_to 1 ∷ [])) [])

-- ---- "points set the MoveTo's count .. Others with count > 1 set LineTo's count to count - 1"
abbrev pub count_word : ℕ → ℕ → List ℕ
count_word kind count = cond (eqb kind 1) (command_word move_to count ∷ []) (cond (ltb 1 count) (command_word line_to (count - 1) ∷ []) [])

-- ---- "polygons then write ClosePath, 15"
abbrev pub close_word : ℕ → ℕ → List ℕ
close_word kind count = cond (eqb kind 3 && ltb 1 count) (command_word close_path 1 ∷ []) []
