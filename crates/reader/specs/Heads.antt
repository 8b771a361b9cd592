-- What the calls hand out of a layer, a feature, a key and a value: where it stands, what its own fields say, and how much is in it. What they say is that of
-- messages/specs/Meaning.
use Rattle.std.specs.Prelude.{ℕ, ◌-◌, ◌/◌, cond, List, eqb, length, Option as Maybe, Some, None}
use Rattle.std.proofs.Math.Option.{Option, none, some}
use Rattle.words.specs.Params.{unparam}
use Rattle.wire.specs.declared.field.ValueKind.TheVariants.{Text, Sint, Bool as Truth}
use Rattle.wire.specs.declared.field.Field.TheVariants.{LayerName, LayerFeature, LayerKey, LayerValue, Value}
use Rattle.wire.specs.Schema.{key_of}
use Rattle.messages.specs.declared.field.FieldAt.{FieldAt}
use Rattle.messages.specs.Meaning.{Feature, last_of, each_of, version_in, extent_in}
use Rattle.reader.specs.declared.layers.Part.{Part}
use Rattle.reader.specs.declared.layers.LayerHead.{LayerHead}
use Rattle.reader.specs.declared.features.FeatureHead.{FeatureHead}
use Rattle.reader.specs.declared.entries.ValueAt.{ValueAt}
use Rattle.reader.specs.Bits.{bits64}

-- ---- the part of the bytes where a body stands; where there is none, no bytes
abbrev pub part_from : ℕ → ℕ → Part
part_from start len = record { start = start; len = len }

abbrev pub part_of : FieldAt → Part
part_of f = part_from f.start (f.end - f.start)

abbrev pub part_or : Option FieldAt → Part
part_or none = part_from 0 0
part_or (some f) = part_of f

-- ---- a layer, by its field in the tile and the fields of its message
abbrev pub layer_head : FieldAt → List FieldAt → LayerHead
layer_head f fs =
    record {
      name = part_or (last_of (key_of LayerName) fs);
      version = version_in fs;
      extent = extent_in fs;
      keys = length (each_of (key_of LayerKey) fs);
      values = length (each_of (key_of LayerValue) fs);
      features = length (each_of (key_of LayerFeature) fs);
      start = f.start;
      end = f.end;
    }

-- ---- a feature, by its field in the layer and what it says
abbrev pub id_told : Option ℕ → Maybe ℕ
id_told none = None
id_told (some n) = Some n

abbrev pub feature_head : FieldAt → Feature → FeatureHead
feature_head f s =
    record {
      id = id_told s.id;
      kind = s.kind;
      tags = length s.tags;
      words = length s.geometry;
      start = f.start;
      end = f.end;
    }

-- ---- a value, by its field in the layer and the one that is its kind: 1 text, 2 float, 3 double, 4 int, 5 uint, 6 sint, 7 bool, or 0 where it is empty.
-- A text is the part where it stands; of a float and a double the bits, of an int and a sint the 64 bits of the number, of a bool 0 or 1
abbrev pub bits_of : FieldAt → ℕ
bits_of k = cond (eqb k.key (key_of (Value Sint))) (bits64 (unparam k.value)) (cond (eqb k.key (key_of (Value Truth))) (cond (eqb k.value 0) 0 1) k.value)

abbrev pub text_in : FieldAt → Part
text_in k = cond (eqb k.key (key_of (Value Text))) (part_of k) (part_from 0 0)

abbrev pub value_head : FieldAt → Option FieldAt → ValueAt
value_head f none = record { kind = 0; text = part_from 0 0; bits = 0; end = f.end }
value_head f (some k) = record { kind = k.key / 8; text = text_in k; bits = bits_of k; end = f.end }
