-- The struct of each answer, by its two cases.
use Prim.Native.Nat.{ℕ}
use mathlib.Core.Path.{◌≡◌}
use borrow.Author.Tests.{ne_eqb}
use Rattle.refusal.specs.declared.Refusal.{Refusal}
use Rattle.std.specs.Prelude.{Result, Ok, Err}
use Rattle.refusal.specs.declared.Refused.{Refused}
use Rattle.refusal.specs.Refusals.{number_of}
use Rattle.refusal.proofs.Laws.{never_zero}
use Rattle.table.specs.declared.Text.{Text}
use Rattle.layer.specs.declared.Layer.{Layer}
use Rattle.layer.specs.Answers.{Changed, said_changed, said_created, said_counted, said_named}
use Rattle.layer.specs.Many.{Added as AddedMany, said_added}
use Rattle.tile.specs.declared.Tile.{Tile}
use Rattle.tile.specs.Answers.{said_tile, said_counted as saidTileCounted}
use Rattle.brinepost_tiles.specs.declared.carried.BpLayer.{BpLayer}
use Rattle.brinepost_tiles.specs.declared.carried.BpTile.{BpTile}
use Rattle.brinepost_tiles.specs.declared.answers.BpChanged.{BpChanged}
use Rattle.brinepost_tiles.specs.declared.answers.BpMany.{BpMany}
use Rattle.brinepost_tiles.specs.declared.answers.BpCounted.{BpCounted}
use Rattle.brinepost_tiles.specs.declared.answers.BpNamed.{BpNamed}
use Rattle.brinepost_tiles.specs.declared.answers.BpAdded.{BpAdded}
use Rattle.brinepost_tiles.specs.Carried.{layer_to, no_layer, tile_to}
use Rattle.brinepost_tiles.specs.Answers.{flat_created, flat_changed, layer_after, flat_many, flat_counted, flat_named, flat_tile, flat_tile_counted}

module _ (r : Result Layer Refusal) where
  pub created_done : (s : Layer) (c : BpLayer) → r ≡ Ok s → c ≡ layer_to s → ◌≡◌ {A = BpChanged} (record { refusal = 0; layer = c }) (flat_created (said_created r))
  unfolding flat_created
  created_done s c e h = rw (e, h)

  pub created_not : (k : Refusal) (n : ℕ) (c : BpLayer) → r ≡ Err k → n ≡ number_of k → c ≡ no_layer → ◌≡◌ {A = BpChanged} (record { refusal = n; layer = c }) (flat_created (said_created r))
  unfolding flat_created
  created_not k n c e h i = rw (e, h, i)

module _ (given : BpLayer) (r : Changed) where
  pub changed_done : (s : Layer) (c : BpLayer) → r ≡ Ok s → c ≡ layer_to s → ◌≡◌ {A = BpChanged} (record { refusal = 0; layer = c }) (flat_changed given (said_changed r))
  unfolding flat_changed
  changed_done s c e h = rw (e, h)

  pub changed_not : (b : Refused Layer) (n : ℕ) → r ≡ Err b → n ≡ number_of b.refusal → ◌≡◌ {A = BpChanged} (record { refusal = n; layer = given }) (flat_changed given (said_changed r))
  unfolding flat_changed
  changed_not b n e h = rw (e, h, never_zero b.refusal)

module _ (given : BpLayer) (s : Layer) where
  pub none_added : (n : ℕ) → n ≡ 0 → given ≡ layer_after given s n
  unfolding layer_after
  none_added n e = rw e

  pub some_added : (n : ℕ) (c : BpLayer) → (n ≡ 0 → ⊥) → c ≡ layer_to s → c ≡ layer_after given s n
  unfolding layer_after
  some_added n c h e = rw (ne_eqb n 0 h, e)

module _ (given : BpLayer) (r : AddedMany) where
  pub many_done : (s : Layer) (n : ℕ) (c : BpLayer) → r ≡ Ok (s, n) → c ≡ layer_after given s n → ◌≡◌ {A = BpMany} (record { refusal = 0; layer = c; count = n }) (flat_many given (said_added r))
  unfolding flat_many
  many_done s n c e h = rw (e, h)

  pub many_not : (b : Refused (Layer × ℕ)) (x : ℕ) (c : BpLayer) → r ≡ Err b → x ≡ number_of b.refusal → c ≡ layer_after given b.kept.0 b.kept.1 → ◌≡◌ {A = BpMany} (record { refusal = x; layer = c; count = b.kept.1 }) (flat_many given (said_added r))
  unfolding flat_many
  many_not b x c e h i = rw (e, h, i)

module _ (r : Result ℕ (Refused Layer)) where
  pub counted_done : (n : ℕ) → r ≡ Ok n → ◌≡◌ {A = BpCounted} (record { refusal = 0; count = n }) (flat_counted (said_counted r))
  unfolding flat_counted
  counted_done n e = rw e

  pub counted_not : (b : Refused Layer) (n : ℕ) → r ≡ Err b → n ≡ number_of b.refusal → ◌≡◌ {A = BpCounted} (record { refusal = n; count = 0 }) (flat_counted (said_counted r))
  unfolding flat_counted
  counted_not b n e h = rw (e, h)

module _ (r : Result Text (Refused Layer)) where
  pub named_done : (t : Text) → r ≡ Ok t → ◌≡◌ {A = BpNamed} (record { refusal = 0; start = t.start; len = t.len }) (flat_named (said_named r))
  unfolding flat_named
  named_done t e = rw e

  pub named_not : (b : Refused Layer) (n : ℕ) → r ≡ Err b → n ≡ number_of b.refusal → ◌≡◌ {A = BpNamed} (record { refusal = n; start = 0; len = 0 }) (flat_named (said_named r))
  unfolding flat_named
  named_not b n e h = rw (e, h)

module _ (r : Result Tile (Refused Tile)) where
  pub added_done : (t : Tile) (c : BpTile) → r ≡ Ok t → c ≡ tile_to t → ◌≡◌ {A = BpAdded} (record { refusal = 0; tile = c }) (flat_tile (said_tile r))
  unfolding flat_tile
  added_done t c e h = rw (e, h)

  pub added_not : (b : Refused Tile) (n : ℕ) (c : BpTile) → r ≡ Err b → n ≡ number_of b.refusal → c ≡ tile_to b.kept → ◌≡◌ {A = BpAdded} (record { refusal = n; tile = c }) (flat_tile (said_tile r))
  unfolding flat_tile
  added_not b n c e h i = rw (e, h, i)

module _ (r : Result ℕ (Refused Tile)) where
  pub tile_done : (n : ℕ) → r ≡ Ok n → ◌≡◌ {A = BpCounted} (record { refusal = 0; count = n }) (flat_tile_counted (saidTileCounted r))
  unfolding flat_tile_counted
  tile_done n e = rw e

  pub tile_not : (b : Refused Tile) (n : ℕ) → r ≡ Err b → n ≡ number_of b.refusal → ◌≡◌ {A = BpCounted} (record { refusal = n; count = 0 }) (flat_tile_counted (saidTileCounted r))
  unfolding flat_tile_counted
  tile_not b n e h = rw (e, h)
