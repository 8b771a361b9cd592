-- What a tile holds after any run of calls: "Tile: layer 3", one field for each layer that was accepted, one behind the other.
use Rattle.std.specs.Prelude.{ℕ, Bool, true, false, cond, List, [], ◌∷◌, ◌++◌, take, drop, eqb}
use Rattle.promise.specs.Answers.{Written}
use Rattle.refusal.specs.Said.{Said}
use Rattle.wire.specs.declared.field.Field.TheVariants.{TileLayer}
use Rattle.wire.specs.Fields.{delimited}
use Rattle.layer.specs.declared.Layer.{Layer}
use Rattle.layer.specs.Held.{Memory, Seen, seen}
use Rattle.tile.specs.Layers.{layer_bytes}
use Rattle.tile.specs.declared.Tile.{Tile}
use Rattle.tile.specs.Tiles.{TileMemory}
use Rattle.tile.specs.Adding.{name_text, add_layer}

-- a layer and its four lists, as they are given to a tile, and what the call sees of them
pub record Given : Type 0 where
  pub layer : Layer
  pub memory : Memory

abbrev pub seen_of : Given → Seen
seen_of g = seen g.layer g.memory

-- the bytes of a tile with these layers, and their names
abbrev pub tile_bytes : List Given → List ℕ
tile_bytes [] = []
tile_bytes (g ∷ gs) = delimited TileLayer (layer_bytes g.layer (seen_of g).held) ++ tile_bytes gs

abbrev pub layer_names : List Given → List (List ℕ)
layer_names [] = []
layer_names (g ∷ gs) = name_text (seen_of g) ∷ layer_names gs

-- the texts that stand in the bytes where the entries say
abbrev pub texts_at : List ℕ → List ℕ → List (List ℕ)
texts_at [] bytes = []
texts_at (start ∷ []) bytes = []
texts_at (start ∷ len ∷ names) bytes = take len (drop start bytes) ∷ texts_at names bytes

-- equal bytes, a name among names, and no name twice
abbrev pub same_bytes : List ℕ → List ℕ → Bool
same_bytes [] [] = true
same_bytes [] (b ∷ bs) = false
same_bytes (a ∷ l) [] = false
same_bytes (a ∷ l) (b ∷ bs) = cond (eqb a b) (same_bytes l bs) false

abbrev pub among : List ℕ → List (List ℕ) → Bool
among name [] = false
among name (n ∷ ns) = cond (same_bytes n name) true (among name ns)

abbrev pub none_twice : List (List ℕ) → Bool
none_twice [] = true
none_twice (n ∷ ns) = cond (among n ns) false (none_twice ns)

-- a tile and its two lists
pub record At : Type 0 where
  pub tile : Tile
  pub memory : TileMemory

abbrev pub call : Given → At → Written (Said Tile) TileMemory
call g a = add_layer a.tile (seen_of g) a.memory

-- after a call, accepted or refused, and after calls one behind the other
abbrev pub after : Given → At → At
after g a = record { tile = (call g a).answer.values; memory = (call g a).memory }

abbrev pub after_all : List Given → At → At
after_all [] a = a
after_all (g ∷ gs) a = after_all gs (after g a)

-- those that were accepted
abbrev pub taken : List Given → At → List Given
taken [] a = []
taken (g ∷ gs) a = cond (eqb (call g a).answer.number 0) (g ∷ taken gs (after g a)) (taken gs (after g a))
