-- Document 01, "Tile bytes": a tile's own record says how much of its two lent lists is used, the names in entries of two words (where the name starts in
-- the bytes, its length) and the bytes. And "Refusals by number": the STATE of a tile.
use Rattle.std.specs.Prelude.{ℕ, ◌*◌, ◌/◌, Bool, ◌&&◌, List, length, take, leb}
use Rattle.table.specs.Keys.{keys_in}
use Rattle.layer.specs.Held.{smaller}
use Rattle.tile.specs.declared.Tile.{Tile}
use Rattle.promise.specs.Lent.{Lent}

-- the two lent lists
pub record TileMemory : Type 0 where
  pub names : List ℕ
  pub bytes : List ℕ

abbrev pub lists : List ℕ → List ℕ → TileMemory
lists ns bs = record { names = ns; bytes = bs }

-- at a call's entry and at its exit
abbrev pub tile_entered : Lent → Lent → TileMemory
tile_entered n b = lists n.entry.now b.entry.now

abbrev pub tile_left : Lent → Lent → TileMemory
tile_left n b = lists n.exit.now b.exit.now

-- "a tile's bytes, stay at or below 4,294,967,295"
abbrev pub max_tile_bytes : ℕ
max_tile_bytes = 4294967295

-- the room in lists of these lengths, in what the figures count
abbrev pub name_room : ℕ → ℕ
name_room names = names / 2

abbrev pub byte_room : ℕ → ℕ
byte_room bytes = smaller bytes max_tile_bytes

-- the part of each list that is used
abbrev pub used_names : Tile → TileMemory → List ℕ
used_names t m = take (t.layers * 2) m.names

abbrev pub used_bytes : Tile → TileMemory → List ℕ
used_bytes t m = take t.used m.bytes

-- no used figure exceeds its list or cap, and no name runs past the used bytes
unfoldable pub valid_tile : Tile → TileMemory → Bool
valid_tile t m =
    leb t.used (byte_room (length m.bytes))
    && (leb t.layers (name_room (length m.names))
    && keys_in t.used (used_names t m))

-- a tile without layers
abbrev pub fresh_tile : ℕ → Tile
fresh_tile extent = record { extent = extent; used = 0; layers = 0 }
