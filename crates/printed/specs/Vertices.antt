-- What is printed of words that were read: `vertices N`, then for each of the N vertices a line of three numbers, its id, x and y.
use Rattle.std.specs.Prelude.{ℕ, ◌+◌, ◌*◌, ◌/◌, ◌≤◌, Bool, true, false, cond, List, [], ◌∷◌, ◌++◌, ltb, ℤ, pos, negsuc, length}
use Rattle.promise.specs.Answers.{Written, Gives, kept}
use Rattle.promise.specs.Lent.{Lent}
use Rattle.printed.specs.Printed.{newline, space, shown}
use Rattle.printed.specs.Lending.{Appends}
use Rattle.printed.specs.Losses.{vertices_head, headed}
use Rattle.printed.specs.Row.{signed_ended}

abbrev pub vertex_line : ℤ → ℤ → ℤ → List ℕ
vertex_line id x y = signed_ended id space ++ signed_ended x space ++ signed_ended y newline

-- three numbers to a line; a rest of fewer is no line
abbrev pub vertex_lines : List ℤ → List ℕ
vertex_lines [] = []
vertex_lines (id ∷ []) = []
vertex_lines (id ∷ x ∷ []) = []
vertex_lines (id ∷ x ∷ y ∷ zs) = vertex_line id x y ++ vertex_lines zs

abbrev pub vertices_text : List ℤ → List ℕ
vertices_text zs = headed vertices_head (length zs / 3) ++ vertex_lines zs

-- an id has one digit, as MVT's have
abbrev pub is_digit : ℤ → Bool
is_digit (pos n) = ltb n 10
is_digit (negsuc n) = false

abbrev pub digit_ids : List ℤ → Bool
digit_ids [] = true
digit_ids (id ∷ []) = true
digit_ids (id ∷ x ∷ []) = true
digit_ids (id ∷ x ∷ y ∷ zs) = cond (is_digit id) (digit_ids zs) false

-- what a text is lent for: the head takes at most 30 bytes, a line 26 (an id and what stands behind it 2, a coordinate 12), and the last line is laid as if
-- its numbers took 66
abbrev pub vertices_room : List ℤ → ℕ
vertices_room zs = 70 + 26 * (length zs / 3)

-- where an id has more digits than one, the room says nothing, and nothing is shown
unfoldable pub vertices_shown : List ℤ → List ℕ → Written ℕ (List ℕ)
vertices_shown zs text = cond (digit_ids zs) (shown (vertices_room zs) (vertices_text zs) text) (kept 0 text)

-- what is shown is inside the text: that each number has 32 bits is known where it is read, and to no definition
pub record ShowsVertices (zs : List ℤ) (r : ℕ) (text : Lent) : Type 0 where
  pub shows : Gives (vertices_shown zs text.entry.now) r text.exit.now
  pub inside : r ≤ length text.entry.now

-- the same of the lines laid at a place of a text
pub record AppendsLines (zs : List ℤ) (at r : ℕ) (text : Lent) : Type 0 where
  pub appends : Appends (vertex_lines zs) at r text
  pub inside : r ≤ length text.entry.now
