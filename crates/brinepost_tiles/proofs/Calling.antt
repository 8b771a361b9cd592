-- What C is told of a call follows from what the proved call said of the layer that C's numbers stand for: one law for every call that changes a layer.
use mathlib.Core.Path.{◌≡◌, ◌∙◌, ap}
use mathlib.Core.List.{List}
use Prim.Native.Nat.{ℕ}
use Rattle.promise.specs.Answers.{Gives}
use Rattle.layer.specs.declared.Layer.{Layer}
use Rattle.layer.specs.Held.{Memory, Seen, Change, seen, written}
use Rattle.layer.specs.Answers.{Changed, said_changed}
use Rattle.layer.specs.Lookup.{Index}
use Rattle.layer.specs.Many.{Added as AddedMany, said_added, Lists, add_indexed}
use Rattle.std.specs.Prelude.{Result}
use Rattle.refusal.specs.declared.Refused.{Refused}
use Rattle.tile.specs.declared.Tile.{Tile}
use Rattle.tile.specs.Tiles.{TileMemory}
use Rattle.tile.specs.Adding.{add_layer}
use Rattle.tile.specs.Answers.{said_tile}
use Rattle.telling.proofs.Tellings.{told_gives}
use Rattle.brinepost_tiles.specs.declared.carried.BpLayer.{BpLayer}
use Rattle.brinepost_tiles.specs.declared.carried.BpTile.{BpTile}
use Rattle.brinepost_tiles.specs.declared.answers.BpChanged.{BpChanged}
use Rattle.brinepost_tiles.specs.declared.answers.BpMany.{BpMany}
use Rattle.brinepost_tiles.specs.declared.answers.BpAdded.{BpAdded}
use Rattle.brinepost_tiles.specs.Carried.{layer_of, tile_of}
use Rattle.brinepost_tiles.specs.Answers.{flat_changed, flat_many, flat_tile}
use Rattle.brinepost_tiles.specs.Calls.{called_from, features_from, added_from}

module _ (given : BpLayer) (s : Layer) (k : s ≡ layer_of given) where
  module _ (a : Changed) (r : BpChanged) (q : r ≡ flat_changed given (said_changed a)) (m n : Memory) where
    pub called : (f : Seen → Change) → Gives (written (f (seen s m)) s m) (said_changed a) n → Gives (called_from given f m) r n
    unfolding called_from
    called f g = rw (← k) (told_gives (flat_changed given) (written (f (seen s m)) s m) (said_changed a) r n g q)

  pub many_called : (a : AddedMany) (r : BpMany) → r ≡ flat_many given (said_added a) → (m : Memory) (x : Index) (n : Lists) (heads words ws bytes : List ℕ) → Gives (add_indexed heads words ws bytes s m x) (said_added a) n → Gives (features_from given heads words ws bytes m x) r n
  unfolding features_from
  many_called a r q m x n heads words ws bytes g = rw (← k) (told_gives (flat_many given) (add_indexed heads words ws bytes s m x) (said_added a) r n g q)

  pub tile_called : (t : BpTile) (u : Tile) (m : Memory) (l n : TileMemory) (a : Result Tile (Refused Tile)) (r : BpAdded) → u ≡ tile_of t → Gives (add_layer u (seen s m) l) (said_tile a) n → r ≡ flat_tile (said_tile a) → Gives (added_from t given m l) r n
  unfolding added_from
  tile_called t u m l n a r e g q = rw (← k, ← e) (told_gives flat_tile (add_layer u (seen s m) l) (said_tile a) r n g q)

-- a question: what it was answered is what its definition says
pub asked : {X Y : Type 0} (flat : X → Y) (a b : X) (r : Y) → r ≡ flat a → a ≡ b → r ≡ flat b
asked flat a b r q e = q ∙ ap flat e
