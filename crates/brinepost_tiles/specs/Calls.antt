-- The calls on layers and tiles as C makes them: what the proved call says of the layer that C's numbers stand for.
use Rattle.std.specs.Prelude.{ℕ, Bool, not, List, eqb}
use Rattle.promise.specs.Answers.{Written}
use Rattle.layer.specs.Held.{Memory, Seen, Change, seen, written}
use Rattle.layer.specs.declared.whole_feature.Head.{Head}
use Rattle.layer.specs.Lookup.{Index}
use Rattle.layer.specs.Many.{Lists, add_indexed}
use Rattle.tile.specs.Tiles.{TileMemory}
use Rattle.tile.specs.Adding.{add_layer}
use Rattle.telling.specs.Telling.{told}
use Rattle.brinepost_tiles.specs.declared.carried.BpLayer.{BpLayer}
use Rattle.brinepost_tiles.specs.declared.carried.BpTile.{BpTile}
use Rattle.brinepost_tiles.specs.declared.answers.BpChanged.{BpChanged}
use Rattle.brinepost_tiles.specs.declared.answers.BpMany.{BpMany}
use Rattle.brinepost_tiles.specs.declared.answers.BpAdded.{BpAdded}
use Rattle.brinepost_tiles.specs.Carried.{layer_of, tile_of}
use Rattle.brinepost_tiles.specs.Answers.{flat_changed, flat_many, flat_tile}

-- what a call sees of the layer that C carries
abbrev pub seen_from : BpLayer → Memory → Seen
seen_from given m = seen (layer_of given) m

-- a call that changes a layer
unfoldable pub called_from : BpLayer → (Seen → Change) → Memory → Written BpChanged Memory
called_from given f m = told (flat_changed given) (written (f (seen_from given m)) (layer_of given) m)

-- C's truth: every number but 0
abbrev pub is_true : ℕ → Bool
is_true n = not (eqb n 0)

abbrev pub head_at : ℕ → ℕ → ℕ → Head
head_at kind has id = record { kind = kind; has_id = is_true has; id = id }

unfoldable pub features_from : BpLayer → List ℕ → List ℕ → List ℕ → List ℕ → Memory → Index → Written BpMany Lists
features_from given heads words ws bytes m x = told (flat_many given) (add_indexed heads words ws bytes (layer_of given) m x)

unfoldable pub added_from : BpTile → BpLayer → Memory → TileMemory → Written BpAdded TileMemory
added_from t given m n = told flat_tile (add_layer (tile_of t) (seen_from given m) n)
