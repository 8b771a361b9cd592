-- The messages of crate `tile`: wrong values, features and fields of a layer. A wrong clause of a definition by recursion is
-- said as the equation that the definition would meet if it had that clause.
use Rattle.std.specs.Prelude.{ℕ, zero, ◌+◌, ◌≡◌, cond, List, [], ◌∷◌, ◌++◌, eqb, length, take, drop}
use Rattle.std.proofs.Common.{ap, arith}
use Rattle.whole.specs.Twos.{wide}
use Rattle.words.specs.Params.{param}
use Rattle.wire.specs.Varints.{varint}
use Rattle.wire.specs.Numbers.{zigzag}
use Rattle.wire.specs.declared.field.ValueKind.TheVariants.{Int, Uint, Sint}
use Rattle.wire.specs.declared.field.Field.{Field}
use Rattle.wire.specs.declared.field.Field.TheVariants.{LayerName, LayerFeature, LayerKey, LayerValue, FeatureId, FeatureTags}
use Rattle.wire.specs.declared.field.Field.TheVariants.{FeatureType, FeatureGeometry, Value}
use Rattle.wire.specs.Schema.{head}
use Rattle.wire.specs.Fields.{varint_field, delimited, packed_field}
use Rattle.table.specs.Texts.{text_of}
use Rattle.tile.specs.Texts.{text_field}
use Rattle.tile.specs.Values.{value_message}
use Rattle.tile.specs.Features.{id_field, feature_message, record_size, record_message}
use Rattle.tile.specs.Entries.{key_fields, value_fields, feature_fields}
use Rattle.ruled_out.specs.Inputs.{item}

-- ---- a text as a field
-- the start taken for the length
pub text_turned : ((field : Field) (texts : List ℕ) (start len : ℕ) → text_field field texts start len ≡ delimited field (text_of texts len start)) → ⊥
unfolding text_field delimited varint_field head varint
text_turned h = let e : ◌≡◌ {A = ℕ} 1 0 = ap (item 1) (h LayerName (97 ∷ 98 ∷ []) 0 1) in omega arith

-- all texts for one
pub all_texts : ((field : Field) (texts : List ℕ) (start len : ℕ) → text_field field texts start len ≡ delimited field texts) → ⊥
unfolding text_field delimited varint_field head varint
all_texts h = let e : ◌≡◌ {A = ℕ} 1 2 = ap (item 1) (h LayerName (97 ∷ 98 ∷ []) 0 1) in omega arith

-- ---- a value's message
-- an int of its low half, five bytes for -1
pub negative_five_bytes : ((texts : List ℕ) (low high : ℕ) → value_message texts 4 low high ≡ varint_field (Value Int) low) → ⊥
unfolding value_message varint_field head varint
negative_five_bytes h = let e : ◌≡◌ {A = ℕ} 11 6 = ap length (h [] 4294967295 4294967295) in omega arith

-- a sint as an int
pub sint_value_as_int : ((texts : List ℕ) (low high : ℕ) → value_message texts 6 low high ≡ varint_field (Value Sint) (wide low high)) → ⊥
unfolding value_message varint_field head varint zigzag param
sint_value_as_int h = let e : ◌≡◌ {A = ℕ} 2 1 = ap (item 1) (h [] 1 0) in omega arith

-- a bool in the field of uints
pub bool_as_uint : ((texts : List ℕ) (low high : ℕ) → value_message texts 7 low high ≡ varint_field (Value Uint) low) → ⊥
unfolding value_message varint_field head varint
bool_as_uint h = let e : ◌≡◌ {A = ℕ} 56 40 = ap (item 0) (h [] 1 0) in omega arith

-- a uint whose halves are exchanged
pub uint_halves_turned : ((texts : List ℕ) (low high : ℕ) → value_message texts 5 low high ≡ varint_field (Value Uint) (wide high low)) → ⊥
unfolding value_message varint_field head varint
uint_halves_turned h = let e : ◌≡◌ {A = ℕ} 1 128 = ap (item 1) (h [] 1 0) in omega arith

-- ---- a feature's message
-- the id is written though it is not set
pub id_anyway : ((mark low high : ℕ) → id_field mark low high ≡ varint_field FeatureId (wide low high)) → ⊥
unfolding varint_field head varint
id_anyway h = let e : ◌≡◌ {A = ℕ} 0 2 = ap length (h 0 0 0) in omega arith

-- an id of 0 is not written
pub id_nought_left_out : ((mark low high : ℕ) → id_field mark low high ≡ cond (eqb (wide low high) 0) [] (varint_field FeatureId (wide low high))) → ⊥
unfolding varint_field head varint
id_nought_left_out h = let e : ◌≡◌ {A = ℕ} 2 0 = ap length (h 1 0 0) in omega arith

-- the type before the tags
pub type_before_tags : ((kind mark low high : ℕ) (tags geometry : List ℕ) → feature_message kind mark low high tags geometry
    ≡ id_field mark low high ++ (varint_field FeatureType kind ++ (packed_field FeatureTags tags ++ packed_field FeatureGeometry geometry))) → ⊥
unfolding feature_message delimited varint_field head varint
type_before_tags h = let e : ◌≡◌ {A = ℕ} 18 24 = ap (item 0) (h 1 0 0 0 (0 ∷ 0 ∷ []) []) in omega arith

-- one number in place of the list of tags
pub tags_unpacked : ((kind mark low high : ℕ) (tags geometry : List ℕ) → feature_message kind mark low high tags geometry
    ≡ id_field mark low high ++ (varint_field FeatureTags (length tags) ++ (varint_field FeatureType kind ++ packed_field FeatureGeometry geometry))) → ⊥
unfolding feature_message delimited varint_field head varint
tags_unpacked h = let e : ◌≡◌ {A = ℕ} 2 4 = ap length (h 1 0 0 0 [] []) in omega arith

-- the type left out where it is 1
pub type_left_out : ((kind mark low high : ℕ) (tags geometry : List ℕ) → feature_message kind mark low high tags geometry
    ≡ id_field mark low high ++ (packed_field FeatureTags tags
    ++ (cond (eqb kind 1) [] (varint_field FeatureType kind) ++ packed_field FeatureGeometry geometry))) → ⊥
unfolding feature_message delimited varint_field head varint
type_left_out h = let e : ◌≡◌ {A = ℕ} 2 0 = ap length (h 1 0 0 0 [] []) in omega arith

-- the tags taken where the geometry stands
pub tags_for_geometry : ((kind mark low high tags geometry : ℕ) (ws : List ℕ) → record_message (kind ∷ mark ∷ low ∷ high ∷ tags ∷ geometry ∷ ws)
    ≡ feature_message kind mark low high (take tags ws) (take geometry (drop tags ws))) → ⊥
unfolding record_message feature_message delimited varint_field head varint
tags_for_geometry h = let e : ◌≡◌ {A = ℕ} 0 9 = ap (item 2) (h 1 0 0 0 2 3 (9 ∷ 4 ∷ 4 ∷ 0 ∷ 1 ∷ [])) in omega arith

-- the two counts exchanged
pub counts_turned : ((kind mark low high tags geometry : ℕ) (ws : List ℕ)
    → record_message (kind ∷ mark ∷ low ∷ high ∷ tags ∷ geometry ∷ ws) ≡ record_message (kind ∷ mark ∷ low ∷ high ∷ geometry ∷ tags ∷ ws)) → ⊥
unfolding record_message feature_message delimited varint_field head varint
counts_turned h = let e : ◌≡◌ {A = ℕ} 2 3 = ap (item 1) (h 1 0 0 0 2 3 (9 ∷ 4 ∷ 4 ∷ 0 ∷ 1 ∷ [])) in omega arith

-- a record of five words before its geometry
pub head_of_five : ((kind mark low high tags geometry : ℕ) (ws : List ℕ) → record_size (kind ∷ mark ∷ low ∷ high ∷ tags ∷ geometry ∷ ws)
    ≡ 5 + geometry + tags) → ⊥
head_of_five h = let e : ◌≡◌ {A = ℕ} 6 5 = h 1 0 0 0 0 0 [] in omega arith

-- ---- keys, values and features of a layer, one field for each
-- a key whose start and length are exchanged
pub key_start_for_length : ((texts keys : List ℕ) (start len : ℕ)
    → key_fields texts (start ∷ len ∷ keys) ≡ text_field LayerKey texts len start ++ key_fields texts keys) → ⊥
unfolding text_field delimited varint_field head varint
key_start_for_length h = let e : ◌≡◌ {A = ℕ} 1 0 = ap (item 1) (h (97 ∷ 98 ∷ []) [] 0 1) in omega arith

-- the keys from the last to the first
pub keys_backwards : ((texts keys : List ℕ) (start len : ℕ)
    → key_fields texts (start ∷ len ∷ keys) ≡ key_fields texts keys ++ text_field LayerKey texts start len) → ⊥
unfolding text_field delimited varint_field head varint
keys_backwards h = let e : ◌≡◌ {A = ℕ} 97 98 = ap (item 2) (h (97 ∷ 98 ∷ []) (1 ∷ 1 ∷ []) 0 1) in omega arith

-- the values from the last to the first
pub values_backwards : ((texts values : List ℕ) (kind low high : ℕ)
    → value_fields texts (kind ∷ low ∷ high ∷ values) ≡ value_fields texts values ++ delimited LayerValue (value_message texts kind low high)) → ⊥
unfolding value_message delimited varint_field head varint
values_backwards h = let e : ◌≡◌ {A = ℕ} 40 56 = ap (item 2) (h [] (7 ∷ 1 ∷ 0 ∷ []) 5 1 0) in omega arith

-- a value without its length
pub value_not_nested : ((texts values : List ℕ) (kind low high : ℕ)
    → value_fields texts (kind ∷ low ∷ high ∷ values) ≡ value_message texts kind low high ++ value_fields texts values) → ⊥
unfolding value_message delimited varint_field head varint
value_not_nested h = let e : ◌≡◌ {A = ℕ} 34 40 = ap (item 0) (h [] [] 5 1 0) in omega arith

-- a feature whose length is that of its words
pub length_of_the_words : ((kind mark low high tags geometry : ℕ) (ws : List ℕ) → feature_fields zero (kind ∷ mark ∷ low ∷ high ∷ tags ∷ geometry ∷ ws)
    ≡ varint_field LayerFeature (6 + geometry + tags) ++ record_message (kind ∷ mark ∷ low ∷ high ∷ tags ∷ geometry ∷ ws)
    ++ feature_fields (geometry + tags) ws) → ⊥
unfolding record_message feature_message delimited varint_field head varint
length_of_the_words h = let e : ◌≡◌ {A = ℕ} 2 6 = ap (item 1) (h 1 0 0 0 0 0 []) in omega arith

-- the first feature alone
pub first_feature_alone : ((kind mark low high tags geometry : ℕ) (ws : List ℕ) → feature_fields zero (kind ∷ mark ∷ low ∷ high ∷ tags ∷ geometry ∷ ws)
    ≡ delimited LayerFeature (record_message (kind ∷ mark ∷ low ∷ high ∷ tags ∷ geometry ∷ ws))) → ⊥
unfolding record_message feature_message delimited varint_field head varint
first_feature_alone h = let e : ◌≡◌ {A = ℕ} 8 4 = ap length (h 1 0 0 0 0 0 (1 ∷ 0 ∷ 0 ∷ 0 ∷ 0 ∷ 0 ∷ [])) in omega arith
