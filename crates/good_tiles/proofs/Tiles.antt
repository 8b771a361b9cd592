-- The bytes of a tile are a good tile, whatever layers it has. Together with `run_holds` (crate tile): so are its used bytes after any run of calls from a
-- fresh tile.
use Prim.Native.Nat.{◌<◌}
use mathlib.Core.Path.{◌≡◌, sym}
use mathlib.Core.Bool.{true}
use mathlib.Core.List.{List, [], ◌∷◌}
use Rattle.wire.specs.declared.field.Field.TheVariants.{TileLayer}
use Rattle.wire.specs.Fields.{delimited}
use Rattle.layer.specs.State.{valid}
use Rattle.tile.specs.Layers.{layer_bytes}
use Rattle.tile.proofs.Layers.{field_parts}
use Rattle.tile.specs.Holding.{Given, seen_of, tile_bytes}
use Rattle.messages.specs.declared.key.Kind.TheVariants.{Tile as tile}
use Rattle.messages.specs.Tiles.{is_good}
use Rattle.good_tiles.proofs.Fields.{WellFormed, is_good_lem, end, both}
use Rattle.good_tiles.proofs.Messages.{Words, field_well}

-- layers that break no rule of STATE, their numbers of 32 bits, as in the lent lists
pub data Layers : List Given → Type 0 where
  none : Layers []
  more : (g : Given) (gs : List Given) → valid (seen_of g) ≡ true → g.layer.extent < 4294967296 → Words (seen_of g).held.values
      → Words (seen_of g).held.features → Layers gs → Layers (g ∷ gs)

fields_well : (gs : List Given) → Layers gs → WellFormed 2 tile (tile_bytes gs)
fields_well [] none = end 2 tile
fields_well (g ∷ gs) (more _ _ h e v f rest) =
    let w : WellFormed 2 tile (delimited TileLayer (layer_bytes g.layer (seen_of g).held)) =
    rw (sym (field_parts (seen_of g))) (field_well g.layer g.memory h e v f) in
    both w (fields_well gs rest)

pub tile_bytes_well : (gs : List Given) → Layers gs → is_good (tile_bytes gs) ≡ true
unfolding is_good
tile_bytes_well gs l = is_good_lem (fields_well gs l) []
