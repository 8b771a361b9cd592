-- What the private steps of adding a layer ask for: what a layer that breaks no rule of STATE offers, and room that was asked for once. No promise of a
-- public function rests on this.
use Rattle.std.specs.Prelude.{ℕ, ◌*◌, ◌≤◌, ◌≡◌, true, List, length}
use Rattle.table.specs.Keys.{keys_in}
use Rattle.table.specs.Values.{values_in}
use Rattle.records.specs.Records.{follow}
use Rattle.layer.specs.declared.Layer.{Layer}
use Rattle.layer.specs.Held.{Seen, Memory, max_keys, max_values, max_texts, max_feature_words}
use Rattle.layer.specs.State.{valid}
use Rattle.tile.specs.Layers.{layer_bytes, layer_field}
use Rattle.tile.specs.declared.Tile.{Tile}
use Rattle.tile.specs.Tiles.{TileMemory, valid_tile}

-- the bytes of something that is as it should be, and so much room for them
pub record Writable (P : Type 0) (bytes : List ℕ) (most : ℕ) : Type 0 where
  pub good : P
  pub room : length bytes ≤ most

-- more than the size of any layer's message, and far less than 64 bits hold
abbrev pub max_size : ℕ
max_size = 1125899906842600

-- used parts within the caps
pub record Few (h : Memory) : Type 0 where
  pub keys : length h.keys ≤ max_keys * 2
  pub values : length h.values ≤ max_values * 3
  pub texts : length h.texts ≤ max_texts
  pub features : length h.features ≤ max_feature_words

-- the used parts of a layer that breaks no rule of STATE
pub record Sound (s : Layer) (h : Memory) : Type 0 where
  pub few : Few h
  pub name : s.name ≤ length h.texts
  pub keys : keys_in (length h.texts) h.keys ≡ true
  pub values : values_in (length h.texts) h.values ≡ true
  pub features : follow h.features ≡ true

-- a layer that breaks no rule of STATE, its message's size, and so much room for its field
pub record Reckoned (v : Seen) (n most : ℕ) : Type 0 where
  pub layer : valid v ≡ true
  pub size : n ≡ length (layer_bytes v.layer v.held)
  pub room : length (layer_field v) ≤ most

-- nothing but ROOM can refuse the layer
pub record Ready (t : Tile) (v : Seen) (m : TileMemory) : Type 0 where
  pub tile : valid_tile t m ≡ true
  pub layer : valid v ≡ true
