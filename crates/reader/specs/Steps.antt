-- What a call meets at a place, before it is known whose fault it is that something cannot be read: `told` makes the call's answer of it and the tile's
-- verdict, and `…_told` of proofs/Telling says that this is the answer of specs/Answers.
use Rattle.std.specs.Prelude.{ℕ, ◌+◌, ◌/◌, ◌≤◌, ◌<◌, Bool, cond, ◌||◌, List, ltb, leb, eqb, length, take, Option as Maybe, Some, None, Result, Ok, Err}
use Rattle.std.proofs.Math.Option.{Option, none, some}
use Rattle.refusal.specs.declared.Fault.{Fault}
use Rattle.wire.specs.declared.field.ValueKind.TheVariants.{Text, Float, Double, Int, Uint, Sint, Bool as Truth}
use Rattle.wire.specs.declared.field.Field.TheVariants.{TileLayer, LayerName, LayerFeature, LayerKey, LayerValue, LayerExtent, LayerVersion, Value}
use Rattle.wire.specs.Schema.{key_of}
use Rattle.messages.specs.declared.key.Kind.TheVariants.{Tile as tile, Layer as layer, Value as value}
use Rattle.messages.specs.declared.field.FieldAt.{FieldAt}
use Rattle.messages.specs.Fields.{fields_from}
use Rattle.messages.specs.Tiles.{Verdict}
use Rattle.messages.specs.Meaning.{low32, kind_field}
use Rattle.reader.specs.declared.cause.Cause.{Cause}
use Rattle.reader.specs.declared.cause.Cause.TheVariants.{Outside, Broken}
use Rattle.reader.specs.declared.layers.Part.{Part}
use Rattle.reader.specs.declared.layers.LayerHead.{LayerHead}
use Rattle.reader.specs.declared.entries.ValueAt.{ValueAt}
use Rattle.reader.specs.Finding.{Found, first_of}
use Rattle.reader.specs.Heads.{part_of, text_in, bits_of, layer_head, value_head}
use Rattle.reader.specs.Answers.{fault_of, within}

abbrev pub told : {A : Type 0} → Verdict → Result A Cause → Result A Fault
told v (Ok x) = Ok x
told v (Err c) = Err (fault_of c v)

abbrev pub LayerStep : Type 0
LayerStep = Result (Maybe LayerHead) Cause

abbrev pub KeyStep : Type 0
KeyStep = Result (Maybe Part) Cause

abbrev pub ValueStep : Type 0
ValueStep = Result (Maybe ValueAt) Cause

-- ---- a layer
-- a head with one more field; the key stands by itself, so that a proof can say what it is
abbrev pub layer_with_key : LayerHead → FieldAt → ℕ → LayerHead
layer_with_key h f key =
    record {
      name = cond (eqb key (key_of LayerName)) (part_of f) h.name;
      version = cond (eqb key (key_of LayerVersion)) (low32 f.value) h.version;
      extent = cond (eqb key (key_of LayerExtent)) (low32 f.value) h.extent;
      keys = cond (eqb key (key_of LayerKey)) (h.keys + 1) h.keys;
      values = cond (eqb key (key_of LayerValue)) (h.values + 1) h.values;
      features = cond (eqb key (key_of LayerFeature)) (h.features + 1) h.features;
      start = h.start;
      end = h.end;
    }

unfoldable pub layer_with : LayerHead → FieldAt → LayerHead
layer_with h f = layer_with_key h f f.key

-- each field takes a byte at least, so that fewer were counted than there are bytes before this place
pub record Counted (h : LayerHead) (at : ℕ) : Type 0 where
  pub keys : h.keys < at
  pub values : h.values < at
  pub features : h.features < at

-- what the next field must be like
pub record Taken (h : LayerHead) (f : FieldAt) : Type 0 where
  pub ordered : f.start ≤ f.end
  pub counted : Counted h f.start

unfoldable pub layer_in : FieldAt → Option (List FieldAt) → LayerStep
layer_in f none = Err Broken
layer_in f (some fs) = Ok (Some (layer_head f fs))

abbrev pub layer_at : List ℕ → Found → LayerStep
layer_at src (Ok (Some f)) = layer_in f (fields_from layer f.start (take f.end src))
layer_at src (Ok None) = Ok None
layer_at src (Err c) = Err c

unfoldable pub layer_step : ℕ → List ℕ → LayerStep
layer_step at src = cond (leb at (length src)) (layer_at src (first_of tile (key_of TileLayer) at src)) (Err Outside)

-- ---- a key
abbrev pub key_at : Found → KeyStep
key_at (Ok (Some f)) = Ok (Some (part_of f))
key_at (Ok None) = Ok None
key_at (Err c) = Err c

unfoldable pub key_step : ℕ → ℕ → List ℕ → KeyStep
key_step at end src = cond (within at end src) (key_at (first_of layer (key_of LayerKey) at (take end src))) (Err Outside)

-- ---- a value
-- the keys of the seven kinds
abbrev pub is_kind : ℕ → Bool
is_kind key =
    eqb key (key_of (Value Text)) || eqb key (key_of (Value Float)) || eqb key (key_of (Value Double)) || eqb key (key_of (Value Int))
    || eqb key (key_of (Value Uint)) || eqb key (key_of (Value Sint)) || eqb key (key_of (Value Truth))

-- the field that is the kind so far, with one more; a key of 0 is no field yet
unfoldable pub kind_with : FieldAt → FieldAt → FieldAt
kind_with kept f = cond (is_kind f.key) (cond (eqb kept.key 0) f (cond (ltb kept.key f.key) kept f)) kept

-- no field yet, or one of a kind
pub record OfKind (f : FieldAt) : Type 0 where
  pub low : f.key ≤ 56
  pub ordered : f.start ≤ f.end

abbrev pub kept_head : ℕ → FieldAt → ValueAt
kept_head end f = record { kind = f.key / 8; text = text_in f; bits = bits_of f; end = end }

unfoldable pub value_in : FieldAt → Option (List FieldAt) → ValueStep
value_in f none = Err Broken
value_in f (some fs) = Ok (Some (value_head f (kind_field fs)))

abbrev pub value_at : List ℕ → Found → ValueStep
value_at src (Ok (Some f)) = value_in f (fields_from value f.start (take f.end src))
value_at src (Ok None) = Ok None
value_at src (Err c) = Err c

unfoldable pub value_step : ℕ → ℕ → List ℕ → ValueStep
value_step at end src = cond (within at end src) (value_at (take end src) (first_of layer (key_of LayerValue) at (take end src))) (Err Outside)
