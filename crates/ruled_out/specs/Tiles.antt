-- Crate `tile`: wrong bytes of a layer, and wrong answers of a tile's calls.
use Rattle.std.specs.Prelude.{ℕ, ◌+◌, ◌*◌, ◌≡◌, false, cond, not, ◌&&◌, List, [], ◌∷◌, ◌++◌, leb, eqb, length, replicate, None}
use Rattle.std.proofs.Common.{ap, arith}
use Rattle.promise.specs.Answers.{Written, kept}
use Rattle.promise.specs.Laid.{lay}
use Rattle.refusal.specs.declared.Refusal.{Refusal}
use Rattle.refusal.specs.declared.Refusal.TheVariants.{State, Room, Turn, Extent, Name}
use Rattle.refusal.specs.Said.{Said, accepted, refused}
use Rattle.table.specs.Keys.{find_key, keys_in}
use Rattle.records.specs.Records.{is_found}
use Rattle.layer.specs.declared.Layer.{Layer}
use Rattle.layer.specs.Held.{Memory, mem, Seen, seen}
use Rattle.layer.specs.State.{valid}
use Rattle.layer.specs.Calls.{is_shut, new_layer, created}
use Rattle.wire.specs.declared.field.Field.TheVariants.{TileLayer, LayerName, LayerExtent, LayerVersion}
use Rattle.wire.specs.Varints.{varint}
use Rattle.wire.specs.Schema.{head}
use Rattle.wire.specs.Fields.{varint_field, delimited}
use Rattle.tile.specs.Texts.{text_field}
use Rattle.tile.specs.Values.{value_message}
use Rattle.tile.specs.Features.{feature_message, record_message}
use Rattle.tile.specs.Entries.{key_fields, value_fields, feature_fields}
use Rattle.tile.specs.Layers.{version, layer_bytes, layer_field, name_at}
use Rattle.tile.specs.declared.Tile.{Tile}
use Rattle.tile.specs.Tiles.{TileMemory, lists, name_room, byte_room, used_names, valid_tile, fresh_tile}
use Rattle.tile.specs.Adding.{name_text, has_name, check, with_layer, appended, add_layer}
use Rattle.tile.specs.Asking.{num_layers, compute_size, to_bytes, layer_size}
use Rattle.tile.specs.Answers.{tells}
use Rattle.ruled_out.specs.Inputs.{bit, item, first_extent, layer_of, now, whole, begun}

-- ---- the layer's message
-- a layer of version 1
pub version_one : ((s : Layer) (m : Memory) → layer_bytes s m ≡ text_field LayerName m.texts 0 s.name ++ (feature_fields 0 m.features
    ++ (key_fields m.texts m.keys ++ (value_fields m.texts m.values
    ++ (varint_field LayerExtent s.extent ++ varint_field LayerVersion 1))))) → ⊥
unfolding layer_bytes text_field delimited varint_field head varint
version_one h = let e : ◌≡◌ {A = ℕ} 2 1 = ap (item 7) (h (new_layer (97 ∷ []) 4096) (mem [] [] (97 ∷ []) [])) in omega arith

-- the extent left out where it is 4096
pub extent_left_out : ((s : Layer) (m : Memory) → layer_bytes s m ≡ text_field LayerName m.texts 0 s.name ++ (feature_fields 0 m.features
    ++ (key_fields m.texts m.keys ++ (value_fields m.texts m.values
    ++ (cond (eqb s.extent 4096) [] (varint_field LayerExtent s.extent) ++ varint_field LayerVersion version))))) → ⊥
unfolding layer_bytes text_field delimited varint_field head varint
extent_left_out h = let e : ◌≡◌ {A = ℕ} 8 5 = ap length (h (new_layer (97 ∷ []) 4096) (mem [] [] (97 ∷ []) [])) in omega arith

-- the version before the extent
pub version_before_extent : ((s : Layer) (m : Memory) → layer_bytes s m ≡ text_field LayerName m.texts 0 s.name ++ (feature_fields 0 m.features
    ++ (key_fields m.texts m.keys ++ (value_fields m.texts m.values
    ++ (varint_field LayerVersion version ++ varint_field LayerExtent s.extent))))) → ⊥
unfolding layer_bytes text_field delimited varint_field head varint
version_before_extent h = let e : ◌≡◌ {A = ℕ} 40 120 = ap (item 3) (h (new_layer (97 ∷ []) 4096) (mem [] [] (97 ∷ []) [])) in omega arith

-- the features before the name
pub features_before_name : ((s : Layer) (m : Memory) → layer_bytes s m ≡ feature_fields 0 m.features ++ (text_field LayerName m.texts 0 s.name
    ++ (key_fields m.texts m.keys ++ (value_fields m.texts m.values
    ++ (varint_field LayerExtent s.extent ++ varint_field LayerVersion version))))) → ⊥
unfolding layer_bytes record_message feature_message value_message text_field delimited varint_field head varint
features_before_name h = let e : ◌≡◌ {A = ℕ} 10 18 = ap (item 0) (h (layer_of now None) whole.held) in omega arith

-- the values before the keys
pub values_before_keys : ((s : Layer) (m : Memory) → layer_bytes s m ≡ text_field LayerName m.texts 0 s.name ++ (feature_fields 0 m.features
    ++ (value_fields m.texts m.values ++ (key_fields m.texts m.keys
    ++ (varint_field LayerExtent s.extent ++ varint_field LayerVersion version))))) → ⊥
unfolding layer_bytes record_message feature_message value_message text_field delimited varint_field head varint
values_before_keys h = let e : ◌≡◌ {A = ℕ} 26 34 = ap (item 18) (h (layer_of now None) whole.held) in omega arith

-- ---- the layer as a field of the tile
-- without its length
pub layer_not_nested : ((v : Seen) → layer_field v ≡ layer_bytes v.layer v.held) → ⊥
unfolding layer_field layer_bytes text_field delimited varint_field head varint
layer_not_nested h = let e : ◌≡◌ {A = ℕ} 26 10 = ap (item 0) (h (seen (new_layer (97 ∷ []) 4096) (mem [] [] (97 ∷ []) []))) in omega arith

-- the name's place forgets its own head and length
pub name_without_length : ((v : Seen) → name_at v ≡ length (varint_field TileLayer (length (layer_bytes v.layer v.held))) + v.layer.name) → ⊥
unfolding name_at layer_bytes text_field delimited varint_field head varint
name_without_length h = let e : ◌≡◌ {A = ℕ} 4 3 = h (seen (new_layer (97 ∷ []) 4096) (mem [] [] (97 ∷ []) [])) in omega arith

-- the name stands right behind the layer's head
pub name_behind_head : ((v : Seen) → name_at v ≡ length (varint_field TileLayer (length (layer_bytes v.layer v.held)))) → ⊥
unfolding name_at layer_bytes text_field delimited varint_field head varint
name_behind_head h = let e : ◌≡◌ {A = ℕ} 4 2 = h (seen (new_layer (97 ∷ []) 4096) (mem [] [] (97 ∷ []) [])) in omega arith

-- ---- a tile of extent 4096 with the layer "a", and the layers "a" and "b" of that extent
abbrev one : Tile
one = record { extent = 4096; used = 10; layers = 1 }

abbrev held : TileMemory
held = lists (4 ∷ 1 ∷ 0 ∷ 0 ∷ []) (26 ∷ 8 ∷ 10 ∷ 1 ∷ 97 ∷ 40 ∷ 128 ∷ 32 ∷ 120 ∷ 2 ∷ 0 ∷ 0 ∷ 0 ∷ 0 ∷ 0 ∷ 0 ∷ 0 ∷ 0 ∷ 0 ∷ 0 ∷ 0 ∷ 0 ∷ [])

abbrev named : ℕ → ℕ → Seen
named byte extent = seen (new_layer (byte ∷ []) extent) (mem [] [] (byte ∷ []) [])

-- ---- Tile::new
-- a byte is used at the start
pub fresh_used : ((extent : ℕ) → fresh_tile extent ≡ record { extent = extent; used = 1; layers = 0 }) → ⊥
fresh_used h = let e : ◌≡◌ {A = ℕ} 0 1 = ap (λ (t : Tile). t.used) (h 4096) in omega arith

-- each tile has the extent 4096
pub fresh_at_4096 : ((extent : ℕ) → fresh_tile extent ≡ fresh_tile 4096) → ⊥
fresh_at_4096 h = let e : ◌≡◌ {A = ℕ} 512 4096 = ap (λ (t : Tile). t.extent) (h 512) in omega arith

-- ---- Tile::byte_room, name_room
-- the cap of bytes left out
pub cap_left_out : ((n : ℕ) → byte_room n ≡ n) → ⊥
cap_left_out h = let e : ◌≡◌ {A = ℕ} 4294967295 4294967296 = h 4294967296 in omega arith

-- a name takes one word
pub name_of_one_word : ((n : ℕ) → name_room n ≡ n) → ⊥
name_of_one_word h = let e : ◌≡◌ {A = ℕ} 1 2 = h 2 in omega arith

-- ---- Tile::is_valid
-- the rule of the names' texts left out
pub name_past : ((t : Tile) (m : TileMemory)
    → valid_tile t m ≡ (leb t.used (byte_room (length m.bytes)) && leb t.layers (name_room (length m.names)))) → ⊥
unfolding valid_tile
name_past h = let e : ◌≡◌ {A = ℕ} 0 1 = ap bit (h (record { extent = 4096; used = 0; layers = 1 }) (lists (4 ∷ 1 ∷ []) [])) in omega arith

-- the rule of the used bytes left out
pub bytes_past : ((t : Tile) (m : TileMemory) → valid_tile t m ≡ (leb t.layers (name_room (length m.names)) && keys_in t.used (used_names t m))) → ⊥
unfolding valid_tile
bytes_past h = let e : ◌≡◌ {A = ℕ} 0 1 = ap bit (h (record { extent = 4096; used = 1; layers = 0 }) (lists [] [])) in omega arith

-- ---- Tile::create_layer
-- the layer has the extent 4096, and not the tile's
pub layer_at_4096 : ((t : Tile) (name ts : List ℕ) → created name t.extent ts ≡ created name 4096 ts) → ⊥
layer_at_4096 h = let e : ◌≡◌ {A = ℕ} 512 4096 = ap (λ w. first_extent w.answer.values) (h (fresh_tile 512) (97 ∷ []) (0 ∷ [])) in omega arith

-- the layer has the tile's bytes for an extent
pub layer_at_size : ((t : Tile) (name ts : List ℕ) → created name t.extent ts ≡ created name t.used ts) → ⊥
layer_at_size h = let e : ◌≡◌ {A = ℕ} 4096 10 = ap (λ w. first_extent w.answer.values) (h one (97 ∷ []) (0 ∷ [])) in omega arith

-- ---- Tile::add_layer: its checks
-- EXTENT is not asked
pub extents_apart : ((t : Tile) (v : Seen) (m : TileMemory) → add_layer t v m ≡ check (valid_tile t m) State t m (check (valid v) State t m
    (check (is_shut v.layer.feature) Turn t m (check (not (has_name t m (name_text v))) Name t m (appended t v m))))) → ⊥
unfolding add_layer valid_tile valid layer_field layer_bytes name_at text_field delimited varint_field head varint
extents_apart h = let e : ◌≡◌ {A = ℕ} 13 0 = ap (λ w. w.answer.number) (h one (named 98 512) held) in omega arith

-- TURN is not asked
pub turn_left_out : ((t : Tile) (v : Seen) (m : TileMemory) → add_layer t v m ≡ check (valid_tile t m) State t m (check (valid v) State t m
    (check (eqb v.layer.extent t.extent) Extent t m (check (not (has_name t m (name_text v))) Name t m (appended t v m))))) → ⊥
unfolding add_layer valid_tile valid
turn_left_out h = let e : ◌≡◌ {A = ℕ} 12 13 = ap (λ w. w.answer.number) (h (fresh_tile 512) begun held) in omega arith

-- NAME is asked before EXTENT
pub name_before_extent : ((t : Tile) (v : Seen) (m : TileMemory) → add_layer t v m ≡ check (valid_tile t m) State t m (check (valid v) State t m
    (check (is_shut v.layer.feature) Turn t m (check (not (has_name t m (name_text v))) Name t m
    (check (eqb v.layer.extent t.extent) Extent t m (appended t v m)))))) → ⊥
unfolding add_layer valid_tile valid
name_before_extent h = let e : ◌≡◌ {A = ℕ} 13 14 = ap (λ w. w.answer.number) (h one (named 97 512) held) in omega arith

-- a name compared by its length alone
pub name_by_length : ((t : Tile) (m : TileMemory) (name : List ℕ)
    → has_name t m name ≡ is_found (find_key 0 (used_names t m) (replicate t.used 0) (replicate (length name) 0))) → ⊥
name_by_length h = let e : ◌≡◌ {A = ℕ} 0 1 = ap bit (h one held (98 ∷ [])) in omega arith

-- a name may come twice
pub name_twice : ((t : Tile) (m : TileMemory) (name : List ℕ) → has_name t m name ≡ false) → ⊥
name_twice h = let e : ◌≡◌ {A = ℕ} 1 0 = ap bit (h one held (97 ∷ [])) in omega arith

-- ROOM is asked of the bytes alone
pub room_of_the_bytes : ((t : Tile) (v : Seen) (m : TileMemory)
    → appended t v m ≡ check (leb (t.used + length (layer_field v)) (byte_room (length m.bytes))) Room t m (with_layer t v m)) → ⊥
unfolding layer_field layer_bytes name_at text_field delimited varint_field head varint
room_of_the_bytes h = let e : ◌≡◌ {A = ℕ} 7 0 = ap (λ w. w.answer.number) (h (fresh_tile 4096) (named 97 4096) (lists [] (replicate 10 0))) in omega arith

-- a refused layer that wrote
pub refused_wrote : ((r : Refusal) (t : Tile) (m : TileMemory) (w : Written (Said Tile) TileMemory)
    → check false r t m w ≡ record { answer = refused r t; memory = w.memory }) → ⊥
refused_wrote h =
    let e : ◌≡◌ {A = ℕ} 0 9 = ap (λ w. item 0 w.memory.bytes) (h Room one (lists [] (0 ∷ [])) (kept (accepted one) (lists [] (9 ∷ [])))) in omega arith

-- ---- Tile::add_layer: the tile after it
-- the layer is not counted
pub layers_not_counted : ((t : Tile) (v : Seen) (m : TileMemory) → (add_layer t v m).answer.values.layers ≡ t.layers) → ⊥
unfolding add_layer valid_tile valid layer_field layer_bytes name_at text_field delimited varint_field head varint
layers_not_counted h = let e : ◌≡◌ {A = ℕ} 2 1 = h one (named 98 4096) held in omega arith

-- the field goes over the first layer's
pub field_place : ((t : Tile) (v : Seen) (m : TileMemory) → (with_layer t v m).memory.bytes ≡ lay 0 (layer_field v) m.bytes) → ⊥
unfolding layer_field layer_bytes text_field delimited varint_field head varint
field_place h = let e : ◌≡◌ {A = ℕ} 97 98 = ap (item 4) (h one (named 98 4096) held) in omega arith

-- the name's place one off
pub name_place_off : ((t : Tile) (v : Seen) (m : TileMemory)
    → (with_layer t v m).memory.names ≡ lay (t.layers * 2) ((t.used + name_at v + 1) ∷ v.layer.name ∷ []) m.names) → ⊥
unfolding name_at layer_bytes text_field delimited varint_field head varint
name_place_off h = let e : ◌≡◌ {A = ℕ} 14 15 = ap (item 2) (h one (named 98 4096) held) in omega arith

-- the name's length before its place
pub name_entry_turned : ((t : Tile) (v : Seen) (m : TileMemory)
    → (with_layer t v m).memory.names ≡ lay (t.layers * 2) (v.layer.name ∷ (t.used + name_at v) ∷ []) m.names) → ⊥
unfolding name_at layer_bytes text_field delimited varint_field head varint
name_entry_turned h = let e : ◌≡◌ {A = ℕ} 14 1 = ap (item 2) (h one (named 98 4096) held) in omega arith

-- no bytes are written
pub layer_unwritten : ((t : Tile) (v : Seen) (m : TileMemory) → (add_layer t v m).memory ≡ m) → ⊥
unfolding add_layer valid_tile valid layer_field layer_bytes name_at text_field delimited varint_field head varint
layer_unwritten h = let e : ◌≡◌ {A = ℕ} 26 0 = ap (λ (m : TileMemory). item 10 m.bytes) (h one (named 98 4096) held) in omega arith

-- ---- Tile::layer_size
-- the size of the message, without its head and length
pub message_alone : ((t : Tile) (v : Seen) → (layer_size t v).values.told ≡ length (layer_bytes v.layer v.held)) → ⊥
unfolding valid layer_field layer_bytes text_field delimited varint_field head varint
message_alone h = let e : ◌≡◌ {A = ℕ} 10 8 = h one (named 98 4096) in omega arith

-- a size of a layer that breaks a rule
pub size_unasked : ((t : Tile) (v : Seen) → layer_size t v ≡ tells (length (layer_field v))) → ⊥
unfolding valid
size_unasked h = let e : ◌≡◌ {A = ℕ} 4 0 = ap (λ w. w.number) (h one (seen (new_layer (97 ∷ []) 4096) (mem [] [] [] []))) in omega arith

-- ---- Tile::num_layers, compute_size, to_bytes
-- the bytes for the layers
pub size_for_layers : ((t : Tile) (m : TileMemory) → (num_layers t m).values.told ≡ t.used) → ⊥
unfolding valid_tile
size_for_layers h = let e : ◌≡◌ {A = ℕ} 1 10 = h one held in omega arith

-- a tile that breaks a rule is answered all the same
pub layers_of_a_broken_tile : ((t : Tile) (m : TileMemory) → (num_layers t m).number ≡ 0) → ⊥
unfolding valid_tile
layers_of_a_broken_tile h = let e : ◌≡◌ {A = ℕ} 4 0 = h one (lists [] []) in omega arith

-- the layers for the bytes
pub layers_for_size : ((t : Tile) (m : TileMemory) → (compute_size t m).values.told ≡ t.layers) → ⊥
unfolding valid_tile
layers_for_size h = let e : ◌≡◌ {A = ℕ} 10 1 = h one held in omega arith

-- the size of the lent list
pub size_of_the_list : ((t : Tile) (m : TileMemory) → (compute_size t m).values.told ≡ length m.bytes) → ⊥
unfolding valid_tile
size_of_the_list h = let e : ◌≡◌ {A = ℕ} 10 22 = h one held in omega arith

-- the bytes end where the layers are counted to
pub layers_for_bytes : ((t : Tile) (m : TileMemory) → (to_bytes t m).values.told ≡ t.layers) → ⊥
unfolding valid_tile
layers_for_bytes h = let e : ◌≡◌ {A = ℕ} 10 1 = h one held in omega arith

-- a refused question tells the used bytes
pub refused_tells : ((t : Tile) (m : TileMemory) → (to_bytes t m).values.told ≡ t.used) → ⊥
unfolding valid_tile
refused_tells h = let e : ◌≡◌ {A = ℕ} 0 10 = h one (lists [] []) in omega arith
