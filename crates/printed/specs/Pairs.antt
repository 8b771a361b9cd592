-- Document 02, request (v), as the program prints it: `edges N`, then for each of the N raw points a line of two numbers, what became of the first and of
-- the second end of the segment that ends in it.
use Rattle.std.specs.Prelude.{ℕ, ◌+◌, ◌*◌, ◌/◌, List, [], ◌∷◌, ◌++◌, length}
use Rattle.printed.specs.Decimal.{ended}
use Rattle.printed.specs.Printed.{newline, space}

-- "edges "
abbrev pub edges_head : List ℕ
edges_head = 101 ∷ 100 ∷ 103 ∷ 101 ∷ 115 ∷ 32 ∷ []

abbrev pub pair_line : ℕ → ℕ → List ℕ
pair_line first second = ended first space ++ ended second newline

-- two numbers to a line; a last one without its second is no line
abbrev pub pair_lines : List ℕ → List ℕ
pair_lines [] = []
pair_lines (e ∷ []) = []
pair_lines (e ∷ f ∷ es) = pair_line e f ++ pair_lines es

-- two edges for each point
abbrev pub edges_text : List ℕ → List ℕ
edges_text es = edges_head ++ ended (length es / 2) newline ++ pair_lines es

-- what a text is lent for: a number has at most twenty digits, and one byte behind it
abbrev pub edges_room : List ℕ → ℕ
edges_room es = 27 + 21 * length es
