-- Document 01, "Tags and rollback": "Later calls answer as if that feature had never been opened." Every call that there is on a layer and its lists: those
-- that change it, alone or as whole features, the questions, and adding it to a tile. What each answers, and what it leaves.
use Rattle.std.specs.Prelude.{ℕ, Bool, List, [], ◌∷◌}
use Rattle.promise.specs.Answers.{Written}
use Rattle.refusal.specs.Said.{Said}
use Rattle.table.specs.declared.Text.{Text}
use Rattle.layer.specs.declared.Layer.{Layer}
use Rattle.layer.specs.declared.whole_feature.Head.{Head}
use Rattle.layer.specs.Held.{Memory, Change, written}
use Rattle.layer.specs.State.{valid}
use Rattle.layer.specs.Answers.{Told}
use Rattle.layer.specs.Calls.{num_features, num_tags, name_of}
use Rattle.layer.specs.Whole.{add_feature}
use Rattle.layer.specs.Lookup.{Index}
use Rattle.layer.specs.Many.{Many, Lists, add_features, add_indexed}
use Rattle.tile.specs.declared.Tile.{Tile}
use Rattle.tile.specs.Tiles.{TileMemory}
use Rattle.tile.specs.Answers.{Told as TileTold}
use Rattle.tile.specs.Asking.{layer_size}
use Rattle.tile.specs.Adding.{add_layer}
use Rattle.tile.specs.Holding.{Given, seen_of}
use Rattle.rollback.specs.Runs.{Call, does}

pub data Later : Type 0 where
  calls : Call → Later
  adds : Head → List ℕ → List ℕ → List ℕ → Later
  adds_many : List ℕ → List ℕ → List ℕ → List ℕ → Index → Later
  asks_state : Later
  asks_features : Later
  asks_tags : Later
  asks_name : Later
  asks_size : Tile → Later
  joins : Tile → TileMemory → Later

-- what is answered; of what else was lent, the memory after the call beside it
pub data Reply : Type 0 where
  changed : Said Layer → Reply
  added : Said Many → Index → Reply
  stands : Bool → Reply
  counted : Said (Told ℕ) → Reply
  named : Said (Told (List Text)) → Reply
  sizes : Said TileTold → Reply
  joined : Written (Said Tile) TileMemory → Reply

-- a change of the layer, in its lists
abbrev pub wrote : Change → Given → Written (Said Layer) Memory
wrote x g = written x g.layer g.memory

abbrev pub wrote_many : List ℕ → List ℕ → List ℕ → List ℕ → Index → Given → Written (Said Many) Lists
wrote_many heads words ws bytes x g = add_indexed heads words ws bytes g.layer g.memory x

abbrev pub reply : Later → Given → Reply
reply (calls c) g = changed (wrote (does c (seen_of g)) g).answer
reply (adds f words ws bytes) g = changed (wrote (add_feature f words ws bytes (seen_of g)) g).answer
reply (adds_many heads words ws bytes x) g = added (wrote_many heads words ws bytes x g).answer (wrote_many heads words ws bytes x g).memory.index
reply asks_state g = stands (valid (seen_of g))
reply asks_features g = counted (num_features (seen_of g))
reply asks_tags g = counted (num_tags (seen_of g))
reply asks_name g = named (name_of (seen_of g))
reply (asks_size t) g = sizes (layer_size t (seen_of g))
reply (joins t m) g = joined (add_layer t (seen_of g) m)

-- the layer and its lists after the call; a question and adding to a tile leave them
abbrev pub left_by : Written (Said Layer) Memory → Given
left_by w = record { layer = w.answer.values; memory = w.memory }

abbrev pub left_by_many : Written (Said Many) Memory → Given
left_by_many w = record { layer = w.answer.values.layer; memory = w.memory }

abbrev pub following : Later → Given → Given
following (calls c) g = left_by (wrote (does c (seen_of g)) g)
following (adds f words ws bytes) g = left_by (wrote (add_feature f words ws bytes (seen_of g)) g)
following (adds_many heads words ws bytes x) g = left_by_many (add_features heads words ws bytes g.layer g.memory)
following asks_state g = g
following asks_features g = g
following asks_tags g = g
following asks_name g = g
following (asks_size t) g = g
following (joins t m) g = g

-- a run of them
abbrev pub replies : List Later → Given → List Reply
replies [] g = []
replies (l ∷ ls) g = reply l g ∷ replies ls (following l g)

abbrev pub following_all : List Later → Given → Given
following_all [] g = g
following_all (l ∷ ls) g = following_all ls (following l g)
