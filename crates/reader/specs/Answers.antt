-- Request (i), the calls: what each answers on any bytes and at any place. A place beyond the bytes is STATE. What cannot be read is the tile's fault, WIRE with
-- its place; where the tile is good, the place that was given is no field's, and it is STATE. ROOM comes last.
use Rattle.std.specs.Prelude.{ℕ, Bool, cond, ◌&&◌, List, leb, length, take, Option as Maybe, Some, None, Result, Ok, Err}
use Rattle.std.proofs.Math.Option.{Option, none, some}
use Rattle.promise.specs.Answers.{Written, kept}
use Rattle.promise.specs.Laid.{lay}
use Rattle.refusal.specs.declared.Fault.{Fault}
use Rattle.refusal.specs.declared.Refusal.TheVariants.{Wire, State, Room}
use Rattle.refusal.specs.Said.{placed, plain}
use Rattle.wire.specs.declared.field.Field.{Field}
use Rattle.wire.specs.declared.field.Field.TheVariants.{TileLayer, LayerFeature, LayerKey, LayerValue}
use Rattle.wire.specs.Schema.{key_of}
use Rattle.messages.specs.declared.key.Kind.TheVariants.{Tile as tile, Layer as layer, Feature as feature, Value as value}
use Rattle.messages.specs.declared.field.FieldAt.{FieldAt}
use Rattle.messages.specs.Fields.{fields_from}
use Rattle.messages.specs.Tiles.{Verdict, good, fault, nested}
use Rattle.messages.specs.Meaning.{or_nothing, kind_field, words_of, feature_of}
use Rattle.reader.specs.declared.cause.Cause.{Cause}
use Rattle.reader.specs.declared.cause.Cause.TheVariants.{Outside, NoRoom, Broken}
use Rattle.reader.specs.declared.layers.Part.{Part}
use Rattle.reader.specs.declared.layers.LayerHead.{LayerHead}
use Rattle.reader.specs.declared.features.FeatureHead.{FeatureHead}
use Rattle.reader.specs.declared.entries.ValueAt.{ValueAt}
use Rattle.reader.specs.Finding.{Found, first_of}
use Rattle.reader.specs.Heads.{part_of, layer_head, feature_head, value_head}

-- what the calls answer: what stands next, None where nothing follows, or a refusal; and how many numbers are laid
abbrev pub NextLayer : Type 0
NextLayer = Result (Maybe LayerHead) Fault

abbrev pub NextFeature : Type 0
NextFeature = Result (Maybe FeatureHead) Fault

abbrev pub NextKey : Type 0
NextKey = Result (Maybe Part) Fault

abbrev pub NextValue : Type 0
NextValue = Result (Maybe ValueAt) Fault

abbrev pub Laid : Type 0
Laid = Result ℕ Fault

abbrev pub blamed : Verdict → Fault
blamed good = plain State
blamed (fault place) = placed Wire place

-- of what keeps a call from its answer, the fault that it tells
abbrev pub fault_of : Cause → Verdict → Fault
fault_of Outside v = plain State
fault_of NoRoom v = plain Room
fault_of Broken v = blamed v

-- a place, and an end of the message that it is in
abbrev pub within : ℕ → ℕ → List ℕ → Bool
within at end src = leb at end && leb end (length src)

module _ (v : Verdict) where
  -- ---- the next layer of a tile
  abbrev pub layer_read : FieldAt → Option (List FieldAt) → NextLayer
  layer_read f none = Err (blamed v)
  layer_read f (some fs) = Ok (Some (layer_head f fs))

  abbrev pub layer_found : List ℕ → Found → NextLayer
  layer_found src (Ok (Some f)) = layer_read f (fields_from layer f.start (take f.end src))
  layer_found src (Ok None) = Ok None
  layer_found src (Err c) = Err (fault_of c v)

  -- ---- the next feature, key and value of a layer whose message ends where the bytes do
  abbrev pub feature_found : List ℕ → Found → NextFeature
  feature_found src (Ok (Some f)) = cond (nested 1 feature f.start (take f.end src)) (Ok (Some (feature_head f (feature_of src f)))) (Err (blamed v))
  feature_found src (Ok None) = Ok None
  feature_found src (Err c) = Err (fault_of c v)

  abbrev pub key_found : Found → NextKey
  key_found (Ok (Some f)) = Ok (Some (part_of f))
  key_found (Ok None) = Ok None
  key_found (Err c) = Err (fault_of c v)

  abbrev pub value_read : FieldAt → Option (List FieldAt) → NextValue
  value_read f none = Err (blamed v)
  value_read f (some fs) = Ok (Some (value_head f (kind_field fs)))

  abbrev pub value_found : List ℕ → Found → NextValue
  value_found src (Ok (Some f)) = value_read f (fields_from value f.start (take f.end src))
  value_found src (Ok None) = Ok None
  value_found src (Err c) = Err (fault_of c v)

-- ---- the calls
unfoldable pub next_layer : ℕ → List ℕ → Verdict → NextLayer
next_layer at src v = cond (leb at (length src)) (layer_found v src (first_of tile (key_of TileLayer) at src)) (Err (plain State))

unfoldable pub next_feature : ℕ → ℕ → List ℕ → Verdict → NextFeature
next_feature at end src v =
    cond (within at end src) (feature_found v (take end src) (first_of layer (key_of LayerFeature) at (take end src))) (Err (plain State))

unfoldable pub next_key : ℕ → ℕ → List ℕ → Verdict → NextKey
next_key at end src v = cond (within at end src) (key_found v (first_of layer (key_of LayerKey) at (take end src))) (Err (plain State))

unfoldable pub next_value : ℕ → ℕ → List ℕ → Verdict → NextValue
next_value at end src v =
    cond (within at end src) (value_found v (take end src) (first_of layer (key_of LayerValue) at (take end src))) (Err (plain State))

-- the numbers of a feature whose message stands at these places: "given room"
abbrev pub laid_out : List ℕ → List ℕ → Written Laid (List ℕ)
laid_out ws out = cond (leb (length ws) (length out)) (record { answer = Ok (length ws); memory = lay 0 ws out }) (kept (Err (plain Room)) out)

unfoldable pub words_into : Field → ℕ → ℕ → List ℕ → List ℕ → Verdict → Written Laid (List ℕ)
words_into field start end src out v =
    cond (within start end src)
    (cond (nested 1 feature start (take end src)) (laid_out (words_of field (take end src) (or_nothing (fields_from feature start (take end src)))) out)
    (kept (Err (blamed v)) out))
    (kept (Err (plain State)) out)
