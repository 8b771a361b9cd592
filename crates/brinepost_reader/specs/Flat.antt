-- What C is told of the answers of reading: the refusal's number and place, zero where there is none, and the values, zero where there is no answer.
use Rattle.std.specs.Prelude.{ℕ, Bool, cond, Some, None, Result, Ok, Err, is_some, unwrap_or}
use Rattle.refusal.specs.declared.Fault.{Fault}
use Rattle.refusal.specs.Refusals.{number_of}
use Rattle.messages.specs.Tiles.{Verdict}
use Rattle.reader.specs.Answers.{NextLayer, NextFeature, NextKey, NextValue, Laid}
use Rattle.brinepost_reader.specs.declared.opened.BpOpened.{BpOpened}
use Rattle.brinepost_reader.specs.declared.layers.BpNextLayer.{BpNextLayer}
use Rattle.brinepost_reader.specs.declared.features.BpNextFeature.{BpNextFeature}
use Rattle.brinepost_reader.specs.declared.entries.BpNextKey.{BpNextKey}
use Rattle.brinepost_reader.specs.declared.entries.BpNextValue.{BpNextValue}
use Rattle.brinepost_reader.specs.declared.feature_words.BpWordsRead.{BpWordsRead}

-- an answer that goes by the tile's verdict, as C is told it
abbrev pub as_told : {A B : Type 0} → (A → B) → (Verdict → A) → Verdict → B
as_told flat answer v = flat (answer v)

-- ---- a tile
unfoldable pub flat_opened : Result ℕ Fault → BpOpened
flat_opened (Ok layers) = record { refusal = 0; place = 0; layers = layers }
flat_opened (Err f) = record { refusal = number_of f.refusal; place = f.place; layers = 0 }

-- ---- a layer
abbrev pub no_layer : ℕ → ℕ → BpNextLayer
no_layer refusal place =
    record {
      refusal = refusal;
      is_there = 0;
      place = place;
      version = 0;
      extent = 0;
      name_start = 0;
      name_len = 0;
      keys = 0;
      values = 0;
      features = 0;
      start = 0;
      end = 0;
    }

unfoldable pub flat_layer : NextLayer → BpNextLayer
flat_layer (Ok (Some h)) =
    record {
      refusal = 0;
      is_there = 1;
      place = 0;
      version = h.version;
      extent = h.extent;
      name_start = h.name.start;
      name_len = h.name.len;
      keys = h.keys;
      values = h.values;
      features = h.features;
      start = h.start;
      end = h.end;
    }
flat_layer (Ok None) = no_layer 0 0
flat_layer (Err f) = no_layer (number_of f.refusal) f.place

-- ---- a feature
abbrev pub bit_of : Bool → ℕ
bit_of b = cond b 1 0

abbrev pub no_feature : ℕ → ℕ → BpNextFeature
no_feature refusal place =
    record { refusal = refusal; is_there = 0; place = place; has_id = 0; kind = 0; id = 0; tags = 0; words = 0; start = 0; end = 0 }

unfoldable pub flat_feature : NextFeature → BpNextFeature
flat_feature (Ok (Some h)) =
    record {
      refusal = 0;
      is_there = 1;
      place = 0;
      has_id = bit_of (is_some h.id);
      kind = h.kind;
      id = unwrap_or h.id 0;
      tags = h.tags;
      words = h.words;
      start = h.start;
      end = h.end;
    }
flat_feature (Ok None) = no_feature 0 0
flat_feature (Err f) = no_feature (number_of f.refusal) f.place

-- ---- a key
abbrev pub no_key : ℕ → ℕ → BpNextKey
no_key refusal place = record { refusal = refusal; is_there = 0; place = place; start = 0; len = 0 }

unfoldable pub flat_key : NextKey → BpNextKey
flat_key (Ok (Some p)) = record { refusal = 0; is_there = 1; place = 0; start = p.start; len = p.len }
flat_key (Ok None) = no_key 0 0
flat_key (Err f) = no_key (number_of f.refusal) f.place

-- ---- a value
abbrev pub no_value : ℕ → ℕ → BpNextValue
no_value refusal place = record { refusal = refusal; is_there = 0; place = place; kind = 0; start = 0; len = 0; bits = 0; next = 0 }

unfoldable pub flat_value : NextValue → BpNextValue
flat_value (Ok (Some v)) =
    record { refusal = 0; is_there = 1; place = 0; kind = v.kind; start = v.text.start; len = v.text.len; bits = v.bits; next = v.end }
flat_value (Ok None) = no_value 0 0
flat_value (Err f) = no_value (number_of f.refusal) f.place

-- ---- a feature's numbers
unfoldable pub flat_words : Laid → BpWordsRead
flat_words (Ok n) = record { refusal = 0; place = 0; count = n }
flat_words (Err f) = record { refusal = number_of f.refusal; place = f.place; count = 0 }
