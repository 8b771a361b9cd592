-- MVT's message Layer, its repeated fields: each feature, each key and each value in order, from what a layer holds (document 01, "Tags and rollback").
use Rattle.std.specs.Prelude.{ℕ, zero, suc, ◌+◌, List, [], ◌∷◌, ◌++◌, get_or}
use Rattle.wire.specs.declared.field.Field.TheVariants.{LayerFeature, LayerKey, LayerValue}
use Rattle.wire.specs.Fields.{delimited}
use Rattle.tile.specs.Texts.{text_field}
use Rattle.tile.specs.Values.{value_message}
use Rattle.tile.specs.Features.{record_message}

-- a key takes two words, where its text starts and its length
abbrev pub key_fields : List ℕ → List ℕ → List ℕ
key_fields texts [] = []
key_fields texts (w ∷ []) = []
key_fields texts (start ∷ len ∷ keys) = text_field LayerKey texts start len ++ key_fields texts keys

-- a value takes three, its kind and two of content
abbrev pub value_field : List ℕ → ℕ → ℕ → ℕ → List ℕ
value_field texts kind low high = delimited LayerValue (value_message texts kind low high)

abbrev pub value_fields : List ℕ → List ℕ → List ℕ
value_fields texts [] = []
value_fields texts (a ∷ []) = []
value_fields texts (a ∷ b ∷ []) = []
value_fields texts (kind ∷ low ∷ high ∷ values) = value_field texts kind low high ++ value_fields texts values

-- the record at the front of some words as a field
abbrev pub feature_field : List ℕ → List ℕ
feature_field ws = delimited LayerFeature (record_message ws)

-- a record for each feature: with its first word it is met, and so many of its words are still to come, the five others before the geometry, the geometry
-- and the tag words
abbrev pub feature_fields : ℕ → List ℕ → List ℕ
feature_fields left [] = []
feature_fields zero (w ∷ ws) = feature_field (w ∷ ws) ++ feature_fields (5 + get_or ws 4 0 + get_or ws 3 0) ws
feature_fields (suc left) (w ∷ ws) = feature_fields left ws
