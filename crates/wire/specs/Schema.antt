-- MVT's schema and PB's wire types: each field's number and how its content is written, each once.
use Rattle.std.specs.Prelude.{ℕ, ◌+◌, ◌*◌, List}
use Rattle.wire.specs.declared.field.ValueKind.{ValueKind}
use Rattle.wire.specs.declared.field.ValueKind.TheVariants.{Text, Float, Double, Int, Uint, Sint, Bool}
use Rattle.wire.specs.declared.field.Field.{Field}
use Rattle.wire.specs.declared.field.Field.TheVariants.{TileLayer, LayerName, LayerFeature, LayerKey, LayerValue, LayerExtent, LayerVersion}
use Rattle.wire.specs.declared.field.Field.TheVariants.{FeatureId, FeatureTags, FeatureType, FeatureGeometry, Value}
use Rattle.wire.specs.Varints.{varint}

-- ---- PB: wire types
abbrev pub varint_type : ℕ
varint_type = 0

abbrev pub fixed64_type : ℕ
fixed64_type = 1

abbrev pub delimited_type : ℕ
delimited_type = 2

abbrev pub fixed32_type : ℕ
fixed32_type = 5

-- ---- document 01: "Value: field = kind", and "1 text, 2 float, 3 double, 4 int, 5 uint, 6 sint, 7 bool"
abbrev pub kind_number : ValueKind → ℕ
kind_number Text = 1
kind_number Float = 2
kind_number Double = 3
kind_number Int = 4
kind_number Uint = 5
kind_number Sint = 6
kind_number Bool = 7

abbrev pub kind_type : ValueKind → ℕ
kind_type Text = delimited_type
kind_type Float = fixed32_type
kind_type Double = fixed64_type
kind_type Int = varint_type
kind_type Uint = varint_type
kind_type Sint = varint_type
kind_type Bool = varint_type

-- ---- document 01: "Tile: layer 3. Layer: name 1, feature 2, key 3, value 4, extent 5, version 15 (2). Feature: id 1, tags 2, type 3, geometry 4."
abbrev pub number_of : Field → ℕ
number_of TileLayer = 3
number_of LayerName = 1
number_of LayerFeature = 2
number_of LayerKey = 3
number_of LayerValue = 4
number_of LayerExtent = 5
number_of LayerVersion = 15
number_of FeatureId = 1
number_of FeatureTags = 2
number_of FeatureType = 3
number_of FeatureGeometry = 4
number_of (Value kind) = kind_number kind

-- texts, messages and packed lists are delimited
abbrev pub type_of : Field → ℕ
type_of TileLayer = delimited_type
type_of LayerName = delimited_type
type_of LayerFeature = delimited_type
type_of LayerKey = delimited_type
type_of LayerValue = delimited_type
type_of LayerExtent = varint_type
type_of LayerVersion = varint_type
type_of FeatureId = varint_type
type_of FeatureTags = delimited_type
type_of FeatureType = varint_type
type_of FeatureGeometry = delimited_type
type_of (Value kind) = kind_type kind

-- ---- PB: a field begins with the varint of 8 × number + wire type
abbrev pub key_of : Field → ℕ
key_of field = 8 * number_of field + type_of field

unfoldable pub head : Field → List ℕ
head field = varint (key_of field)
