-- Our values, features, layers and tiles are fields that MVT knows. The words of a layer's lists are of 32 bits, as in the lent lists.
use Prim.Native.Nat.{ℕ, zero, suc, ◌+◌, ◌≤◌, ◌<◌}
use mathlib.Core.Path.{◌≡◌, refl}
use mathlib.Core.Bool.{Bool, true, false, cond}
use mathlib.Core.List.{List, [], ◌∷◌, ◌++◌}
use native.Mathlib.Omega.{arith}
use lib.Dec.{eqb}
use lib.ListN.{length, take, drop, get_or, length-take, length-drop}
use Rattle.wire.specs.declared.field.ValueKind.TheVariants.{Text, Float, Double, Int, Uint, Sint, Bool as Truth}
use Rattle.wire.specs.declared.field.Field.{Field}
use Rattle.wire.specs.declared.field.Field.TheVariants.{TileLayer, LayerName, LayerFeature, LayerKey, LayerValue, LayerExtent, LayerVersion}
use Rattle.wire.specs.declared.field.Field.TheVariants.{FeatureId, FeatureTags, FeatureType, FeatureGeometry, Value}
use Rattle.wire.specs.Schema.{key_of}
use Rattle.whole.specs.Twos.{wide}
use Rattle.wire.specs.Numbers.{zigzag}
use Rattle.wire.proofs.Numbers.{zigzag_fits}
use Rattle.messages.specs.declared.key.Kind.{Kind}
use Rattle.messages.specs.declared.key.Kind.TheVariants.{Tile as tile, Layer as layer, Feature as feature, Value as value}
use Rattle.messages.specs.declared.key.Body.TheVariants.{Any as any}
use Rattle.messages.specs.declared.key.Follows.TheVariants.{ABody as aBody}
use Rattle.messages.specs.Keys.{follows}
use Rattle.messages.proofs.Written.{All, Below64}
use Rattle.table.specs.Texts.{text_of}
use Rattle.tile.specs.Texts.{text_field}
use Rattle.tile.specs.Values.{value_message}
use Rattle.tile.proofs.Texts.{text_field_lem}
use Rattle.tile.proofs.Values.{value_short}
use Rattle.tile.specs.Features.{feature_message, record_message}
use Rattle.tile.proofs.Features.{record_short, message_parts}
use Rattle.tile.specs.Entries.{key_fields, value_fields, feature_fields}
use Rattle.layer.specs.declared.Layer.{Layer}
use Rattle.layer.specs.Held.{Memory, seen}
use Rattle.layer.specs.State.{valid}
use Rattle.tile.specs.Layers.{version, layer_bytes, layer_field}
use Rattle.tile.proofs.Layers.{layer_parts, field_parts, sound_seen, held_short}
use Rattle.good_tiles.proofs.Fields.{WellFormed, end, both, number_field, four_field, eight_field, body_field, packed_field_lem, message_field}

-- either of two by a test
choose : {depth : ℕ} {kind : Kind} (b : Bool) (x y : List ℕ) → WellFormed depth kind x → WellFormed depth kind y → WellFormed depth kind (cond b x y)
choose true x y v w = v
choose false x y v w = w

-- ---- texts and values
pub text_well : (depth : ℕ) (kind : Kind) (f : Field) → follows kind (key_of f) ≡ aBody any → (texts : List ℕ) (start len : ℕ) → length texts ≤ 4294967295
    → WellFormed depth kind (text_field f texts start len)
text_well depth kind f e texts start len h =
    rw text_field_lem (body_field depth kind f e (text_of texts start len) (omega (arith, length-take len (drop start texts), length-drop start texts)))

pub value_well : (texts : List ℕ) (kind low high : ℕ) → length texts ≤ 4294967295 → low < 4294967296 → high < 4294967296
    → WellFormed 0 value (value_message texts kind low high)
unfolding value_message follows
value_well texts kind low high t l h =
    choose (eqb kind 1) _ _ (text_well 0 value (Value Text) refl texts low high t)
    (choose (eqb kind 2) _ _ (four_field 0 value (Value Float) refl low l)
    (choose (eqb kind 3) _ _ (eight_field 0 value (Value Double) refl (wide low high) (omega arith))
    (choose (eqb kind 4) _ _ (number_field 0 value (Value Int) refl (wide low high) (omega arith))
    (choose (eqb kind 5) _ _ (number_field 0 value (Value Uint) refl (wide low high) (omega arith))
    (choose (eqb kind 6) _ _ (number_field 0 value (Value Sint) refl (zigzag (wide low high)) (zigzag_fits (wide low high) (omega arith)))
    (number_field 0 value (Value Truth) refl low (omega arith)))))))

-- ---- features
pub feature_well : (kind mark low high : ℕ) (tags geometry : List ℕ) → kind < 4294967296 → low < 4294967296 → high < 4294967296 → length tags ≤ 4294967295
    → length geometry ≤ 4294967295 → All Below64 tags → All Below64 geometry → WellFormed 0 feature (feature_message kind mark low high tags geometry)
unfolding follows
feature_well kind mark low high tags geometry k l h t g u v =
    rw message_parts
    (both (choose (eqb mark 1) _ _ (number_field 0 feature FeatureId refl (wide low high) (omega arith)) (end 0 feature))
    (both (packed_field_lem 0 feature FeatureTags refl tags t u)
    (both (number_field 0 feature FeatureType refl kind (omega arith)) (packed_field_lem 0 feature FeatureGeometry refl geometry g v))))

-- words of 32 bits, as many as a layer may have
pub record Words (ws : List ℕ) : Type 0 where
  pub few : length ws ≤ 4294967295
  pub each : (i : ℕ) → get_or ws i 0 < 4294967296

fewer : {w : ℕ} {ws : List ℕ} → Words (w ∷ ws) → Words ws
fewer h = record { few = omega (arith, h.few); each = λ i. h.each (suc i) }

below_all : (ws : List ℕ) → ((i : ℕ) → get_or ws i 0 < 4294967296) → All Below64 ws
below_all [] h = tt
below_all (w ∷ ws) h = (omega (arith, h 0), below_all ws (λ i. h (suc i)))

below_take : (n : ℕ) (ws : List ℕ) → All Below64 ws → All Below64 (take n ws)
below_take zero ws a = tt
below_take (suc n) [] a = tt
below_take (suc n) (w ∷ ws) a = (a.0, below_take n ws a.1)

below_drop : (n : ℕ) (ws : List ℕ) → All Below64 ws → All Below64 (drop n ws)
below_drop zero ws a = a
below_drop (suc n) [] a = a
below_drop (suc n) (w ∷ ws) a = below_drop n ws a.1

module _ (ws : List ℕ) (h : Words ws) where
  taken : (n k : ℕ) → length (take n (drop k ws)) ≤ 4294967295
  taken n k = omega (arith, h.few, length-take n (drop k ws), length-drop k ws)

  below : (n k : ℕ) → All Below64 (take n (drop k ws))
  below n k = below_take n (drop k ws) (below_drop k ws (below_all ws h.each))

  pub record_well : WellFormed 0 feature (record_message ws)
  unfolding record_message
  record_well =
      feature_well (get_or ws 0 0) (get_or ws 1 0) (get_or ws 2 0) (get_or ws 3 0) (take (get_or ws 4 0) (drop (6 + get_or ws 5 0) ws)) (take (get_or ws 5 0) (drop 6 ws))
      (h.each 0) (h.each 2) (h.each 3) (taken (get_or ws 4 0) (6 + get_or ws 5 0)) (taken (get_or ws 5 0) 6) (below (get_or ws 4 0) (6 + get_or ws 5 0))
      (below (get_or ws 5 0) 6)

  record_less : length (record_message ws) < 18446744073709551616
  record_less = omega (arith, record_short ws, h.each 4, h.each 5)

pub features_well : (left : ℕ) (ws : List ℕ) → Words ws → WellFormed 1 layer (feature_fields left ws)
unfolding follows
features_well left [] h = end 1 layer
features_well zero (w ∷ ws) h =
    both (message_field 1 layer LayerFeature feature 0 refl refl (record_message (w ∷ ws)) (record_less (w ∷ ws) h) (record_well (w ∷ ws) h))
    (features_well (5 + get_or ws 4 0 + get_or ws 3 0) ws (fewer h))
features_well (suc left) (w ∷ ws) h = features_well left ws (fewer h)

-- ---- keys and values
pub keys_well : (texts keys : List ℕ) → length texts ≤ 4294967295 → WellFormed 1 layer (key_fields texts keys)
unfolding follows
keys_well texts [] t = end 1 layer
keys_well texts (a ∷ []) t = end 1 layer
keys_well texts (a ∷ b ∷ keys) t = both (text_well 1 layer LayerKey refl texts a b t) (keys_well texts keys t)

pub values_well : (texts values : List ℕ) → length texts ≤ 4294967295 → Words values → WellFormed 1 layer (value_fields texts values)
unfolding follows
values_well texts [] t h = end 1 layer
values_well texts (a ∷ []) t h = end 1 layer
values_well texts (a ∷ b ∷ []) t h = end 1 layer
values_well texts (a ∷ b ∷ c ∷ values) t h =
    both
    (message_field 1 layer LayerValue value 0 refl refl (value_message texts a b c) (omega (arith, value_short texts a b c))
    (value_well texts a b c t (h.each 1) (h.each 2))) (values_well texts values t (fewer (fewer (fewer h))))

-- ---- a layer, and the layer as a field of the tile
pub layer_well : (s : Layer) (h : Memory) → length h.texts ≤ 4294967295 → s.extent < 4294967296 → Words h.values → Words h.features
    → WellFormed 1 layer (layer_bytes s h)
unfolding follows
layer_well s h t e v f =
    rw layer_parts
    (both (text_well 1 layer LayerName refl h.texts 0 s.name t)
    (both (features_well 0 h.features f)
    (both (keys_well h.texts h.keys t)
    (both (values_well h.texts h.values t v)
    (both (number_field 1 layer LayerExtent refl s.extent (omega arith)) (number_field 1 layer LayerVersion refl version (omega arith)))))))

module _ (s : Layer) (m : Memory) (ok : valid (seen s m) ≡ true) (e : s.extent < 4294967296) (v : Words (seen s m).held.values)
    (f : Words (seen s m).held.features) where
  pub field_well : WellFormed 2 tile (layer_field (seen s m))
  unfolding follows
  field_well =
      rw (field_parts (seen s m))
      (message_field 2 tile TileLayer layer 1 refl refl (layer_bytes s (seen s m).held) (omega (arith, held_short s m ok))
      (layer_well s (seen s m).held (sound_seen s m ok).few.texts e v f))

  -- a tile that grows by a layer stays well-formed
  pub tile_well : (bytes : List ℕ) → WellFormed 2 tile bytes → WellFormed 2 tile (bytes ++ layer_field (seen s m))
  tile_well bytes w = both w field_well
