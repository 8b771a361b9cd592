-- MVT's message Layer: name 1, feature 2, key 3, value 4, extent 5, version 15 (2); fields in ascending number, name, extent and version always. And the
-- layer as a field of the tile.
use Rattle.std.specs.Prelude.{ℕ, ◌+◌, false, None, ◌≡◌, refl, List, [], ◌∷◌, ◌++◌, length}
use Rattle.layer.specs.declared.Layer.{Layer}
use Rattle.layer.specs.Held.{Memory, mem, Seen, seen}
use Rattle.wire.specs.declared.field.Field.TheVariants.{TileLayer, LayerName, LayerExtent, LayerVersion}
use Rattle.wire.specs.Varints.{varint}
use Rattle.wire.specs.Schema.{head}
use Rattle.wire.specs.Fields.{varint_field, delimited}
use Rattle.tile.specs.Texts.{text_field}
use Rattle.tile.specs.Entries.{key_fields, value_fields, feature_fields}

-- MVT 2.1: the version of a layer is 2
abbrev pub version : ℕ
version = 2

-- the message, of the layer's own record and the used part of each list. The name is the first text
unfoldable pub layer_bytes : Layer → Memory → List ℕ
layer_bytes s h =
    text_field LayerName h.texts 0 s.name
    ++ (feature_fields 0 h.features
    ++ (key_fields h.texts h.keys
    ++ (value_fields h.texts h.values
    ++ (varint_field LayerExtent s.extent ++ varint_field LayerVersion version))))

-- the layer as a field of the tile
unfoldable pub layer_field : Seen → List ℕ
layer_field v = delimited TileLayer (layer_bytes v.layer v.held)

-- where the name's text starts in that field: behind the field's head and length and the name's
unfoldable pub name_at : Seen → ℕ
name_at v = length (varint_field TileLayer (length (layer_bytes v.layer v.held))) + length (varint_field LayerName v.layer.name)

-- ---- document 01's tile: extent 4096, layer "a" without features
pub empty_layer : Layer
empty_layer = record { extent = 4096; strict = false; name = 1; used = record { keys = 0; values = 0; texts = 1; features = 0 }; feature = None }

pub empty_layer_lem : layer_field (seen empty_layer (mem [] [] (97 ∷ []) [])) ≡ 26 ∷ 8 ∷ 10 ∷ 1 ∷ 97 ∷ 40 ∷ 128 ∷ 32 ∷ 120 ∷ 2 ∷ []
unfolding empty_layer layer_field layer_bytes text_field delimited varint_field head varint
empty_layer_lem = refl
