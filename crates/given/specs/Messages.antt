-- MVT's messages of what was given, by MVT's schema and PB's fields alone (crate `wire`): document 01, "Tile bytes".
use Rattle.std.specs.Prelude.{ℕ, ◌≡◌, refl, cond, List, [], ◌∷◌, ◌++◌}
use Rattle.std.proofs.Math.Option.{Option, none, some}
use Rattle.words.specs.Params.{param}
use Rattle.wire.specs.declared.field.ValueKind.TheVariants.{Text, Float, Double, Int, Uint, Sint, Bool}
use Rattle.wire.specs.declared.field.Field.TheVariants.{TileLayer, LayerName, LayerFeature, LayerKey, LayerValue, LayerExtent, LayerVersion}
use Rattle.wire.specs.declared.field.Field.TheVariants.{FeatureId, FeatureTags, FeatureType, FeatureGeometry, Value}
use Rattle.wire.specs.Varints.{varint}
use Rattle.wire.specs.Schema.{head}
use Rattle.wire.specs.Fields.{varint_field, fixed32_field, fixed64_field, delimited, packed_field}
use Rattle.tile.specs.Holding.{same_bytes}
use Rattle.given.specs.Given.{Content, text, float, double, int, uint, sint, bool, Tag, Feature, Drawing, blank, bits64, same, place_of, keys_of, values_of}

-- a field for each, one behind the other
abbrev pub each : {A : Type 0} → (A → List ℕ) → List A → List ℕ
each field [] = []
each field (x ∷ xs) = field x ++ each field xs

-- "Value: field = kind". A sint goes out by zigzag, which is MVT's parameter rule
unfoldable pub value_message : Content → List ℕ
value_message (text t) = delimited (Value Text) t
value_message (float bits) = fixed32_field (Value Float) bits
value_message (double bits) = fixed64_field (Value Double) bits
value_message (int n) = varint_field (Value Int) (bits64 n)
value_message (uint n) = varint_field (Value Uint) n
value_message (sint n) = varint_field (Value Sint) (param n)
value_message (bool b) = varint_field (Value Bool) (cond b 1 0)

-- MVT 4.4: of each tag the index of its key among the layer's keys, then that of its value among the values
abbrev pub tag_indices : List (List ℕ) → List Content → List Tag → List ℕ
tag_indices keys values [] = []
tag_indices keys values (t ∷ ts) = place_of same_bytes t.key keys ∷ place_of same t.value values ∷ tag_indices keys values ts

-- "type always, id if set, empty packed lists never"
abbrev pub id_field : Option ℕ → List ℕ
id_field none = []
id_field (some n) = varint_field FeatureId n

unfoldable pub feature_message : List (List ℕ) → List Content → Feature → List ℕ
feature_message keys values f =
    id_field f.id
    ++ (packed_field FeatureTags (tag_indices keys values f.tags)
    ++ (varint_field FeatureType f.kind ++ packed_field FeatureGeometry f.geometry))

abbrev pub feature_field : List (List ℕ) → List Content → Feature → List ℕ
feature_field keys values f = delimited LayerFeature (feature_message keys values f)

abbrev pub key_field : List ℕ → List ℕ
key_field key = delimited LayerKey key

abbrev pub value_field : Content → List ℕ
value_field c = delimited LayerValue (value_message c)

-- fields in ascending number; name, extent and version always
unfoldable pub layer_message : Drawing → List ℕ
layer_message d =
    delimited LayerName d.name
    ++ (each (feature_field (keys_of d.features) (values_of d.features)) d.features
    ++ (each key_field (keys_of d.features)
    ++ (each value_field (values_of d.features)
    ++ (varint_field LayerExtent d.extent ++ varint_field LayerVersion 2))))

abbrev pub layer_field : Drawing → List ℕ
layer_field d = delimited TileLayer (layer_message d)

abbrev pub tile_message : List Drawing → List ℕ
tile_message ds = each layer_field ds

-- ---- document 01's tile: extent 4096, layer "a" without features
pub p_tile : tile_message (blank (97 ∷ []) 4096 ∷ []) ≡ 26 ∷ 8 ∷ 10 ∷ 1 ∷ 97 ∷ 40 ∷ 128 ∷ 32 ∷ 120 ∷ 2 ∷ []
unfolding layer_message delimited varint_field head varint
p_tile = refl
