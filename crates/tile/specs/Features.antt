-- MVT's message Feature: id 1, tags 2, type 3, geometry 4 (document 01: "type always, id if set, empty packed lists never"), and which record of a layer it is.
use Rattle.std.specs.Prelude.{ℕ, ◌+◌, ◌≡◌, refl, cond, List, [], ◌∷◌, ◌++◌, take, drop, get_or, eqb}
use Rattle.wire.specs.declared.field.Field.TheVariants.{FeatureId, FeatureTags, FeatureType, FeatureGeometry}
use Rattle.wire.specs.Varints.{varint}
use Rattle.wire.specs.Schema.{head}
use Rattle.whole.specs.Twos.{wide}
use Rattle.records.specs.Records.{head_words, mark_at, id_low_at, id_high_at, tags_at, geometry_at}
use Rattle.wire.specs.Fields.{varint_field, packed_field, delimited}

-- an id mark of 1 says that the id is set
abbrev pub id_field : ℕ → ℕ → ℕ → List ℕ
id_field mark low high = cond (eqb mark 1) (varint_field FeatureId (wide low high)) []

unfoldable pub feature_message : ℕ → ℕ → ℕ → ℕ → List ℕ → List ℕ → List ℕ
feature_message kind mark low high tags geometry =
    id_field mark low high ++ (packed_field FeatureTags tags ++ (varint_field FeatureType kind ++ packed_field FeatureGeometry geometry))

-- the record at the front of some words: kind, id mark, id low, id high, tag word count, geometry word count, the geometry, the tag words. How many words
-- it takes, and its message
abbrev pub record_size : List ℕ → ℕ
record_size ws = head_words + get_or ws geometry_at 0 + get_or ws tags_at 0

unfoldable pub record_message : List ℕ → List ℕ
record_message ws =
    feature_message (get_or ws 0 0) (get_or ws mark_at 0) (get_or ws id_low_at 0) (get_or ws id_high_at 0)
    (take (get_or ws tags_at 0) (drop (head_words + get_or ws geometry_at 0) ws))
    (take (get_or ws geometry_at 0) (drop head_words ws))

-- ---- a point with the id 0 and a tag; and a line without id, tags and words: its type alone
point_with_id : record_message (1 ∷ 1 ∷ 0 ∷ 0 ∷ 2 ∷ 3 ∷ 9 ∷ 4 ∷ 4 ∷ 0 ∷ 200 ∷ []) ≡ 8 ∷ 0 ∷ 18 ∷ 3 ∷ 0 ∷ 200 ∷ 1 ∷ 24 ∷ 1 ∷ 34 ∷ 3 ∷ 9 ∷ 4 ∷ 4 ∷ []
unfolding record_message feature_message varint_field delimited head varint
point_with_id = refl

bare_line : record_message (2 ∷ 0 ∷ 0 ∷ 0 ∷ 0 ∷ 0 ∷ []) ≡ 24 ∷ 2 ∷ []
unfolding record_message feature_message varint_field delimited head varint
bare_line = refl
