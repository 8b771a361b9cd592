-- A layer and a tile as C carries them, and what they stand for. An open feature is a flag of 1 and the figures at its opening; 0 is none, and then the
-- figures mean nothing. A strict layer has a mark of 1, an ordinary one of 0.
use Rattle.std.specs.Prelude.{ℕ, Bool, true, false, cond, Option, Some, None, ◌||◌, ltb, eqb}
use Rattle.layer.specs.declared.Figures.{Figures}
use Rattle.layer.specs.declared.Layer.{Layer}
use Rattle.tile.specs.declared.Tile.{Tile}
use Rattle.brinepost_tiles.specs.declared.carried.BpFigures.{BpFigures}
use Rattle.brinepost_tiles.specs.declared.carried.BpLayer.{BpLayer}
use Rattle.brinepost_tiles.specs.declared.carried.BpTile.{BpTile}

abbrev pub figures_of : BpFigures → Figures
figures_of u = record { keys = u.keys; values = u.values; texts = u.texts; features = u.features }

abbrev pub figures_to : Figures → BpFigures
figures_to u = record { keys = u.keys; values = u.values; texts = u.texts; features = u.features }

abbrev pub no_figures : BpFigures
no_figures = record { keys = 0; values = 0; texts = 0; features = 0 }

abbrev pub open_of : ℕ → BpFigures → Option Figures
open_of flag o = cond (eqb flag 0) None (Some (figures_of o))

abbrev pub flag_to : Option Figures → ℕ
flag_to None = 0
flag_to (Some o) = 1

abbrev pub since_to : Option Figures → BpFigures
since_to None = no_figures
since_to (Some o) = figures_to o

abbrev pub mark_to : Bool → ℕ
mark_to true = 1
mark_to false = 0

-- a layer that breaks a rule of STATE, whatever lists are lent: its name runs past its texts
abbrev pub broken : Layer
broken = record { extent = 0; strict = false; name = 1; used = record { keys = 0; values = 0; texts = 0; features = 0 }; feature = None }

-- a flag or a mark that is neither 0 nor 1
abbrev pub is_broken : BpLayer → Bool
is_broken s = ltb 1 s.is_open || ltb 1 s.is_strict

-- the layer that C's numbers stand for; a bad flag or mark is STATE
unfoldable pub layer_of : BpLayer → Layer
layer_of s =
    cond (is_broken s)
    broken
    (record {
      extent = s.extent;
      strict = eqb s.is_strict 1;
      name = s.name;
      used = figures_of s.used;
      feature = open_of s.is_open s.since;
    })

unfoldable pub layer_to : Layer → BpLayer
layer_to s =
    record {
      extent = s.extent;
      is_open = flag_to s.feature;
      is_strict = mark_to s.strict;
      name = s.name;
      used = figures_to s.used;
      since = since_to s.feature;
    }

-- where there is no layer to give: the broken one, so that every call refuses it as STATE (proofs/NoLayer has the law of each). Every number but the name's
-- length is 0; with that 0 too it would be a layer without a name, which breaks no rule
abbrev pub no_layer : BpLayer
no_layer = layer_to broken

abbrev pub tile_of : BpTile → Tile
tile_of t = record { extent = t.extent; used = t.used; layers = t.layers }

abbrev pub tile_to : Tile → BpTile
tile_to t = record { extent = t.extent; used = t.used; layers = t.layers }
