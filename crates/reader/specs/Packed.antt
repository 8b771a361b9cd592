-- The numbers of a packed list: how many there are, and their low 32 bits laid in a lent list.
use Rattle.std.specs.Prelude.{ℕ, ◌+◌, ◌≤◌, ◌≡◌, true, List, map, length, Option as Maybe, Some, None}
use Rattle.std.proofs.Math.Option.{Option, none, some}
use Rattle.promise.specs.Laid.{lay}
use Rattle.messages.specs.Tiles.{is_read}
use Rattle.messages.specs.Meaning.{low32, or_nothing}

abbrev pub Count : Type 0
Count = Maybe ℕ

abbrev pub counted : Option (List ℕ) → Count
counted none = None
counted (some ns) = Some (length ns)

abbrev pub low_of : Option (List ℕ) → List ℕ
low_of ns = map low32 (or_nothing ns)

-- they can be read, and there is room for them from a place on
pub record RoomFor (ns : Option (List ℕ)) (from : ℕ) (out : List ℕ) : Type 0 where
  pub can : is_read ns ≡ true
  pub fits : from + length (or_nothing ns) ≤ length out

-- a run laid from a place on: the place behind it, and the list after it
pub record PutsAt (from : ℕ) (run out : List ℕ) (behind : ℕ) (l : List ℕ) : Type 0 where
  pub place : behind ≡ from + length run
  pub list : l ≡ lay from run out
