-- The figures against their rooms, and then the used names' places.
use mathlib.Core.Path.{sym}
use lib.Seq.{length-take-le}
use Rattle.tile.proofs.Standing.{bytes_past, names_past, names_in, valid_is}
use borrow.Author.Rules.{rules}
use Rattle.tile.proofs.Tile.is_valid.Goals as goal

pub returns-then-byte_room-used : goal.returns-then-byte_room-used
returns-then-byte_room-used c = search (rules, bytes_past)

pub returns-then-name_room-layers : goal.returns-then-name_room-layers
returns-then-name_room-layers c = search (rules, names_past)

pub slice_bounds-keys_in-end : goal.slice_bounds-keys_in-end
slice_bounds-keys_in-end c = sym (length-take-le _ _ (search (rules, names_in)))

pub returns : goal.returns
returns c = search (rules, valid_is)
