-- Request (i): what the fields of a good tile say. "Fields may come in any order; of a single-valued field that comes twice, the last counts. Tags and geometry
-- are taken packed or unpacked. A missing version, extent or type reads as the default in MVT's schema, a missing name as empty; 32-bit fields take the low 32
-- bits. A value with no kind reads as empty, with several as the lowest field."
use Rattle.std.specs.Prelude.{ℕ, ◌+◌, ◌*◌, ◌%◌, Bool, cond, not, List, [], ◌∷◌, ◌++◌, map, eqb, ℤ, take, drop}
use Rattle.std.proofs.Math.Option.{Option, none, some}
use Rattle.whole.specs.Twos.{signed64}
use Rattle.words.specs.Params.{unparam}
use Rattle.wire.specs.declared.field.Field.{Field}
use Rattle.wire.specs.declared.field.ValueKind.TheVariants.{Text, Float, Double, Int, Uint, Sint, Bool as Truth}
use Rattle.wire.specs.declared.field.Field.TheVariants.{TileLayer, LayerName, LayerFeature, LayerKey, LayerValue, LayerExtent, LayerVersion}
use Rattle.wire.specs.declared.field.Field.TheVariants.{FeatureId, FeatureTags, FeatureType, FeatureGeometry, Value as ValueOf}
use Rattle.wire.specs.Schema.{number_of, varint_type, key_of}
use Rattle.messages.specs.declared.key.Kind.{Kind}
use Rattle.messages.specs.declared.key.Kind.TheVariants.{Tile as tile, Layer as layer, Feature as feature, Value as value}
use Rattle.messages.specs.declared.field.FieldAt.{FieldAt}
use Rattle.messages.specs.Fields.{fields_from, numbers_from}
use Rattle.messages.specs.Tiles.{is_good}

-- ---- what a tile says
-- texts by their bytes, floats and doubles by their bits
pub data Value : Type 0 where
  empty : Value
  text : List ℕ → Value
  float : ℕ → Value
  double : ℕ → Value
  int : ℤ → Value
  uint : ℕ → Value
  sint : ℤ → Value
  bool : Bool → Value

pub record Feature : Type 0 where
  pub id : Option ℕ
  pub kind : ℕ
  pub tags : List ℕ
  pub geometry : List ℕ

pub record Layer : Type 0 where
  pub name : List ℕ
  pub version : ℕ
  pub extent : ℕ
  pub keys : List (List ℕ)
  pub values : List Value
  pub features : List Feature

-- ---- among the fields of a message
-- the last with a key, all with a key
abbrev pub later : Option FieldAt → Option FieldAt → Option FieldAt
later earlier none = earlier
later earlier (some f) = some f

abbrev pub last_of : ℕ → List FieldAt → Option FieldAt
last_of key [] = none
last_of key (f ∷ fs) = later (cond (eqb f.key key) (some f) none) (last_of key fs)

abbrev pub each_of : ℕ → List FieldAt → List FieldAt
each_of key [] = []
each_of key (f ∷ fs) = cond (eqb f.key key) (f ∷ each_of key fs) (each_of key fs)

abbrev pub low32 : ℕ → ℕ
low32 n = n % 4294967296

abbrev pub number_or : ℕ → Option FieldAt → ℕ
number_or default none = default
number_or default (some f) = f.value

-- ---- where a field stands: its body's bytes, and the fields of a message and the numbers of a packed list in them
abbrev pub body_of : List ℕ → FieldAt → List ℕ
body_of src f = drop f.start (take f.end src)

abbrev pub or_nothing : {A : Type 0} → Option (List A) → List A
or_nothing none = []
or_nothing (some xs) = xs

abbrev pub fields_of : Kind → List ℕ → FieldAt → List FieldAt
fields_of kind src f = or_nothing (fields_from kind f.start (take f.end src))

abbrev pub packed_numbers : List ℕ → FieldAt → List ℕ
packed_numbers src f = or_nothing (numbers_from f.start (take f.end src))

abbrev pub text_or : List ℕ → Option FieldAt → List ℕ
text_or src none = []
text_or src (some f) = body_of src f

-- ---- a value
-- "with several as the lowest field"
abbrev pub unless : {A : Type 0} → Option A → Option A → Option A
unless (some x) y = some x
unless none y = y

abbrev pub kind_field : List FieldAt → Option FieldAt
kind_field fs =
    unless (last_of (key_of (ValueOf Text)) fs)
    (unless (last_of (key_of (ValueOf Float)) fs)
    (unless (last_of (key_of (ValueOf Double)) fs)
    (unless (last_of (key_of (ValueOf Int)) fs)
    (unless (last_of (key_of (ValueOf Uint)) fs)
    (unless (last_of (key_of (ValueOf Sint)) fs)
    (last_of (key_of (ValueOf Truth)) fs))))))

-- an int is its 64 bits, two's complement; a sint by zigzag, which is MVT's parameter rule; a bool is true where any of its 64 bits is set
abbrev pub content : List ℕ → FieldAt → Value
content src f =
    cond (eqb f.key (key_of (ValueOf Text))) (text (body_of src f))
    (cond (eqb f.key (key_of (ValueOf Float))) (float f.value)
    (cond (eqb f.key (key_of (ValueOf Double))) (double f.value)
    (cond (eqb f.key (key_of (ValueOf Int))) (int (signed64 f.value))
    (cond (eqb f.key (key_of (ValueOf Uint))) (uint f.value)
    (cond (eqb f.key (key_of (ValueOf Sint))) (sint (unparam f.value))
    (bool (not (eqb f.value 0))))))))

abbrev pub content_or : List ℕ → Option FieldAt → Value
content_or src none = empty
content_or src (some f) = content src f

unfoldable pub value_of : List ℕ → FieldAt → Value
value_of src f = content_or src (kind_field (fields_of value src f))

-- ---- a feature
-- the key of a field of numbers where it is not packed
abbrev pub single_key : Field → ℕ
single_key field = 8 * number_of field + varint_type

-- the numbers of one field, and of all of them: packed and single mixed, packed ones divided at will
abbrev pub words_in : Field → List ℕ → FieldAt → List ℕ
words_in field src f =
    cond (eqb f.key (key_of field)) (map low32 (packed_numbers src f))
    (cond (eqb f.key (single_key field)) (low32 f.value ∷ []) [])

abbrev pub words_of : Field → List ℕ → List FieldAt → List ℕ
words_of field src [] = []
words_of field src (f ∷ fs) = words_in field src f ++ words_of field src fs

-- a missing id is none: the writer tells "no id" from 0
abbrev pub id_of : Option FieldAt → Option ℕ
id_of none = none
id_of (some f) = some f.value

abbrev pub feature_says : List ℕ → List FieldAt → Feature
feature_says src fs =
    record {
      id = id_of (last_of (key_of FeatureId) fs);
      kind = low32 (number_or 0 (last_of (key_of FeatureType) fs));
      tags = words_of FeatureTags src fs;
      geometry = words_of FeatureGeometry src fs;
    }

unfoldable pub feature_of : List ℕ → FieldAt → Feature
feature_of src f = feature_says src (fields_of feature src f)

-- ---- a layer
-- MVT's schema: version 1 and extent 4096 where there is none
abbrev pub version_in : List FieldAt → ℕ
version_in fs = low32 (number_or 1 (last_of (key_of LayerVersion) fs))

abbrev pub extent_in : List FieldAt → ℕ
extent_in fs = low32 (number_or 4096 (last_of (key_of LayerExtent) fs))

abbrev pub layer_says : List ℕ → List FieldAt → Layer
layer_says src fs =
    record {
      name = text_or src (last_of (key_of LayerName) fs);
      version = version_in fs;
      extent = extent_in fs;
      keys = map (body_of src) (each_of (key_of LayerKey) fs);
      values = map (value_of src) (each_of (key_of LayerValue) fs);
      features = map (feature_of src) (each_of (key_of LayerFeature) fs);
    }

unfoldable pub layer_of : List ℕ → FieldAt → Layer
layer_of src f = layer_says src (fields_of layer src f)

-- ---- a tile
abbrev pub layer_fields : List ℕ → List FieldAt
layer_fields src = each_of (key_of TileLayer) (or_nothing (fields_from tile 0 src))

unfoldable pub reading : List ℕ → Option (List Layer)
reading src = cond (is_good src) (some (map (layer_of src) (layer_fields src))) none
