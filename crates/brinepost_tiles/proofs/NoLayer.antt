-- What a refused new layer gives in place of a layer: every call refuses it as STATE, whatever lists are lent, gives it back and writes nowhere. JOB and KIND
-- are asked before STATE, so of the calls that ask them the laws speak where these pass; where they do not, the call is refused by their number.
use Prim.Native.Nat.{ℕ}
use mathlib.Core.Path.{◌≡◌, refl}
use mathlib.Core.Bool.{Bool, true, false}
use mathlib.Core.List.{List, [], ◌∷◌}
use lib.ListN.{length, take}
use Rattle.promise.specs.Answers.{Written, kept}
use Rattle.refusal.specs.declared.Refusal.TheVariants.{State}
use Rattle.refusal.specs.Said.{Said, refused}
use Rattle.words.specs.Geometries.{is_kind}
use Rattle.layer.specs.Held.{Memory, Seen, Change, refuses, fits, seen}
use Rattle.layer.specs.State.{valid}
use Rattle.layer.specs.Calls.{Tag, into_feature, set_id, into_layer, abandoned, add_tag, num_features, num_tags, name_of}
use Rattle.layer.specs.declared.whole_feature.Head.{Head}
use Rattle.layer.specs.TagLists.{tags_ok}
use Rattle.layer.specs.Whole.{add_feature}
use Rattle.layer.specs.Lookup.{Index}
use Rattle.layer.specs.Many.{Lists, heads_ok, with_index}
use Rattle.tile.specs.declared.Tile.{Tile}
use Rattle.tile.specs.Tiles.{TileMemory, valid_tile}
use Rattle.tile.specs.Adding.{add_layer, check}
use Rattle.tile.specs.Asking.{layer_size}
use Rattle.telling.specs.Telling.{told}
use Rattle.brinepost_tiles.specs.declared.carried.BpTile.{BpTile}
use Rattle.brinepost_tiles.specs.declared.answers.BpChanged.{BpChanged}
use Rattle.brinepost_tiles.specs.declared.answers.BpMany.{BpMany}
use Rattle.brinepost_tiles.specs.declared.answers.BpCounted.{BpCounted}
use Rattle.brinepost_tiles.specs.declared.answers.BpNamed.{BpNamed}
use Rattle.brinepost_tiles.specs.declared.answers.BpAdded.{BpAdded}
use Rattle.brinepost_tiles.specs.Carried.{no_layer, broken, layer_of, layer_to, tile_of, tile_to}
use Rattle.brinepost_tiles.specs.Answers.{flat_changed, layer_after, flat_many, flat_counted, flat_named, flat_tile, flat_tile_counted}
use Rattle.brinepost_tiles.specs.Calls.{seen_from, called_from, features_from, added_from}
use Rattle.brinepost_tiles.proofs.Carrying.{stands_broken}

-- the answers: STATE's number, no count, and what was given
abbrev pub not_changed : BpChanged
not_changed = record { refusal = 4; layer = no_layer }

abbrev pub not_many : BpMany
not_many = record { refusal = 4; layer = no_layer; count = 0 }

abbrev pub not_counted : BpCounted
not_counted = record { refusal = 4; count = 0 }

abbrev pub not_named : BpNamed
not_named = record { refusal = 4; start = 0; len = 0 }

abbrev pub not_added : BpTile → BpAdded
not_added t = record { refusal = 4; tile = tile_to (tile_of t) }

module _ (m : Memory) where
  pub no_layer_lem : valid (seen_from no_layer m) ≡ false
  unfolding layer_of layer_to valid
  no_layer_lem = stands_broken (fits broken.used (seen broken m).room)

  -- a call that refuses it as STATE says so to C
  state_told : (f : Seen → Change) → f (seen_from no_layer m) ≡ refuses State → called_from no_layer f m ≡ kept not_changed m
  unfolding called_from told flat_changed
  state_told f e = rw e

  -- ---- the calls that change a layer
  pub opening_refused : (kind : ℕ) (words : List ℕ) → is_kind kind ≡ true → called_from no_layer (into_feature kind words) m ≡ kept not_changed m
  opening_refused kind words k = state_told (into_feature kind words) (rw (k, no_layer_lem))

  pub id_refused : (low high : ℕ) → called_from no_layer (set_id low high) m ≡ kept not_changed m
  id_refused low high = state_told (set_id low high) (rw no_layer_lem)

  pub tag_refused : (t : Tag) → called_from no_layer (add_tag t) m ≡ kept not_changed m
  tag_refused t = state_told (add_tag t) (rw no_layer_lem)

  pub closing_refused : called_from no_layer into_layer m ≡ kept not_changed m
  closing_refused = state_told into_layer (rw no_layer_lem)

  pub abandoning_refused : called_from no_layer abandoned m ≡ kept not_changed m
  abandoning_refused = state_told abandoned (rw no_layer_lem)

  module _ (words ws bytes : List ℕ) where
    whole_refuses : (f : Head) → tags_ok (length bytes) ws ≡ true → is_kind f.kind ≡ true → add_feature f words ws bytes (seen_from no_layer m) ≡ refuses State
    whole_refuses f j k = rw (j, k, no_layer_lem)

    pub whole_refused : (f : Head) → tags_ok (length bytes) ws ≡ true → is_kind f.kind ≡ true → called_from no_layer (add_feature f words ws bytes) m ≡ kept not_changed m
    whole_refused f j k = state_told (add_feature f words ws bytes) (whole_refuses f j k)

  -- ---- many features: none at all, and a first one that passes JOB and KIND
  pub none_refused : (bytes : List ℕ) (x : Index) → features_from no_layer [] [] [] bytes m x ≡ kept not_many (with_index m x)
  unfolding features_from told flat_many layer_after
  none_refused bytes x = rw no_layer_lem

  module _ (kind mark low high w t : ℕ) (hs words ws bytes : List ℕ) (x : Index) where
    pub many_refused : heads_ok (length words) (length ws) (kind ∷ mark ∷ low ∷ high ∷ w ∷ t ∷ hs) ≡ true → tags_ok (length bytes) (take t ws) ≡ true →
        is_kind kind ≡ true → features_from no_layer (kind ∷ mark ∷ low ∷ high ∷ w ∷ t ∷ hs) words ws bytes m x ≡ kept not_many (with_index m x)
    unfolding features_from told flat_many layer_after
    many_refused h j k = rw (h, j, k, no_layer_lem)

  -- ---- the questions
  pub features_refused : flat_counted (num_features (seen_from no_layer m)) ≡ not_counted
  unfolding flat_counted
  features_refused = rw no_layer_lem

  pub tags_refused : flat_counted (num_tags (seen_from no_layer m)) ≡ not_counted
  unfolding flat_counted
  tags_refused = rw no_layer_lem

  pub name_refused : flat_named (name_of (seen_from no_layer m)) ≡ not_named
  unfolding flat_named
  name_refused = rw no_layer_lem

  pub size_refused : (t : Tile) → flat_tile_counted (layer_size t (seen_from no_layer m)) ≡ not_counted
  unfolding flat_tile_counted
  size_refused t = rw no_layer_lem

  -- ---- adding it to a tile, be the tile good or not
  either_state : (t : Tile) (n : TileMemory) (b : Bool) (w : Written (Said Tile) TileMemory) → check b State t n (check false State t n w) ≡ kept (refused State t) n
  either_state t n true w = refl
  either_state t n false w = refl

  pub adding_refused : (t : BpTile) (n : TileMemory) → added_from t no_layer m n ≡ kept (not_added t) n
  unfolding added_from add_layer told flat_tile
  adding_refused t n = rw (no_layer_lem, either_state (tile_of t) n (valid_tile (tile_of t) n) _)
