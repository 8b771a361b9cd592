-- Document 01, "Encoder STATE", the rules of its figures: refused are "used words exceed the room; count exceeds used / 2 + 1 (rounded down); count is
-- not zero and the last command's place is not below used".
use Rattle.std.specs.Prelude.{ℕ, ◌+◌, ◌/◌, Bool, ◌&&◌, ◌||◌, leb, ltb, eqb}
use Rattle.words.specs.Geometries.{room}

abbrev pub figures_fit : ℕ → ℕ → ℕ → ℕ → Bool
figures_fit used count place length = leb used (room length) && leb count (used / 2 + 1) && (eqb count 0 || ltb place used)
