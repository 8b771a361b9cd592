-- The answers about layers and tiles as C has them: the refusal's number, 0 where the call is accepted, and then the state or the numbers asked for.
use Rattle.std.specs.Prelude.{ℕ, cond, List, [], ◌∷◌, eqb}
use Rattle.refusal.specs.Said.{Said}
use Rattle.table.specs.declared.Text.{Text}
use Rattle.layer.specs.declared.Layer.{Layer}
use Rattle.layer.specs.Answers.{Told}
use Rattle.layer.specs.Many.{Many}
use Rattle.tile.specs.declared.Tile.{Tile}
use Rattle.tile.specs.Answers.{Told as TileTold}
use Rattle.brinepost_tiles.specs.declared.carried.BpLayer.{BpLayer}
use Rattle.brinepost_tiles.specs.declared.answers.BpChanged.{BpChanged}
use Rattle.brinepost_tiles.specs.declared.answers.BpMany.{BpMany}
use Rattle.brinepost_tiles.specs.declared.answers.BpCounted.{BpCounted}
use Rattle.brinepost_tiles.specs.declared.answers.BpNamed.{BpNamed}
use Rattle.brinepost_tiles.specs.declared.answers.BpAdded.{BpAdded}
use Rattle.brinepost_tiles.specs.Carried.{layer_to, no_layer, tile_to}

-- the new layer, or where there is none what every call refuses as STATE
abbrev pub first_layer : List Layer → BpLayer
first_layer [] = no_layer
first_layer (s ∷ ss) = layer_to s

unfoldable pub flat_created : Said (List Layer) → BpChanged
flat_created a = record { refusal = a.number; layer = first_layer a.values }

-- the layer after the call, or exactly as C gave it
unfoldable pub flat_changed : BpLayer → Said Layer → BpChanged
flat_changed given a = record { refusal = a.number; layer = cond (eqb a.number 0) (layer_to a.values) given }

-- the layer after so many accepted features, or exactly as C gave it where there was none
unfoldable pub layer_after : BpLayer → Layer → ℕ → BpLayer
layer_after given s n = cond (eqb n 0) given (layer_to s)

unfoldable pub flat_many : BpLayer → Said Many → BpMany
flat_many given a = record { refusal = a.number; layer = layer_after given a.values.layer a.values.count; count = a.values.count }

-- the number asked for, 0 where refused
unfoldable pub flat_counted : Said (Told ℕ) → BpCounted
flat_counted a = record { refusal = a.number; count = a.values.told }

abbrev pub place : ℕ → List Text → BpNamed
place n [] = record { refusal = n; start = 0; len = 0 }
place n (t ∷ ts) = record { refusal = n; start = t.start; len = t.len }

unfoldable pub flat_named : Said (Told (List Text)) → BpNamed
flat_named a = place a.number a.values.told

-- the tile after the call, or as it was given
unfoldable pub flat_tile : Said Tile → BpAdded
flat_tile a = record { refusal = a.number; tile = tile_to a.values }

unfoldable pub flat_tile_counted : Said TileTold → BpCounted
flat_tile_counted a = record { refusal = a.number; count = a.values.told }
