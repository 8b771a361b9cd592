-- What a tile is asked for: STATE, then the figure. And how many bytes a layer would take in it.
use Rattle.std.specs.Prelude.{ℕ, cond, length}
use Rattle.refusal.specs.declared.Refusal.TheVariants.{State}
use Rattle.refusal.specs.Said.{Said}
use Rattle.layer.specs.Held.{Seen}
use Rattle.layer.specs.State.{valid}
use Rattle.tile.specs.declared.Tile.{Tile}
use Rattle.tile.specs.Layers.{layer_field}
use Rattle.tile.specs.Tiles.{TileMemory, valid_tile}
use Rattle.tile.specs.Answers.{Told, tells, tells_not}

abbrev pub counted : Tile → TileMemory → ℕ → Said Told
counted t m n = cond (valid_tile t m) (tells n) (tells_not State t)

abbrev pub num_layers : Tile → TileMemory → Said Told
num_layers t m = counted t m t.layers

-- the encoded size in bytes
abbrev pub compute_size : Tile → TileMemory → Said Told
compute_size t m = counted t m t.used

-- where the tile's bytes end in the lent list, at whose front they stand
abbrev pub to_bytes : Tile → TileMemory → Said Told
to_bytes t m = counted t m t.used

-- by how many bytes adding this layer lets the tile grow: the layer's STATE, then the size of its field
abbrev pub layer_size : Tile → Seen → Said Told
layer_size t v = cond (valid v) (tells (length (layer_field v))) (tells_not State t)
