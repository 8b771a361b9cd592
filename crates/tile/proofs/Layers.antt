-- Laws of a layer's bytes: their parts and how long they are at most; what each part's writer asks for, where the layer breaks no rule of STATE; that the field
-- depends on the used parts only, and where the name stands in it.
use Prim.Native.Nat.{ℕ, ◌+◌, ◌*◌, ◌≤◌}
use mathlib.Core.Path.{◌≡◌, refl, sym, ap, ◌∙◌}
use mathlib.Core.Bool.{true}
use mathlib.Core.List.{List, ◌++◌, append_assoc}
use native.Mathlib.Omega.{arith}
use lib.ListN.{length, take, drop, length-append, length-take, take-append-drop}
use lib.Seq.{take_at, drop_at, length-take-le}
use borrow.Author.Tests.{le-leb, leb-true}
use Rattle.table.specs.Texts.{inside}
use Rattle.table.specs.Keys.{keys_in}
use Rattle.table.specs.Values.{values_in}
use Rattle.records.specs.Records.{follow}
use Rattle.records.proofs.Growing.{follow_one, one_whole}
use Rattle.layer.specs.declared.Figures.{Figures}
use Rattle.std.specs.Prelude.{Option, Some, None}
use Rattle.layer.specs.declared.Layer.{Layer}
use Rattle.layer.specs.Held.{Memory, Seen, seen, held_by}
use Rattle.layer.specs.State.{valid, records_ok}
use Rattle.layer.proofs.Fitting.{Fit, within}
use Rattle.layer.proofs.Standing.{parts, valid_fit, open_parts}
use Rattle.wire.specs.declared.field.Field.TheVariants.{TileLayer, LayerName, LayerExtent, LayerVersion}
use Rattle.wire.specs.Fields.{varint_field, delimited}
use Rattle.wire.proofs.Fields.{varint_field_short, delimited_parts}
use Rattle.wire.proofs.Nested.{nested_long}
use Rattle.tile.specs.Texts.{text_field}
use Rattle.tile.proofs.Texts.{text_field_lem, text_short}
use Rattle.tile.specs.Entries.{key_fields, value_fields, feature_fields}
use Rattle.tile.proofs.Entries.{keys_short, values_short, features_short}
use Rattle.tile.specs.Layers.{version, layer_bytes, layer_field, name_at}
use Rattle.tile.specs.Steps.{Writable, max_size, Sound}

-- ---- the message
module _ (s : Layer) (h : Memory) where
  abbrev pub after_contents : List ℕ
  after_contents = varint_field LayerExtent s.extent ++ varint_field LayerVersion version

  abbrev pub after_table : List ℕ
  after_table = value_fields h.texts h.values ++ after_contents

  abbrev pub after_records : List ℕ
  after_records = key_fields h.texts h.keys ++ after_table

  abbrev pub after_name : List ℕ
  after_name = feature_fields 0 h.features ++ after_records

  pub layer_parts : layer_bytes s h ≡ text_field LayerName h.texts 0 s.name ++ after_name
  unfolding layer_bytes
  layer_parts = refl

  pub layer_long : length (layer_bytes s h) ≡ length (text_field LayerName h.texts 0 s.name) + length (feature_fields 0 h.features) + length (key_fields h.texts h.keys) + length (value_fields h.texts h.values) + (length (varint_field LayerExtent s.extent) + length (varint_field LayerVersion version))
  layer_long =
      omega (
        arith,
        ap length layer_parts,
        length-append (text_field LayerName h.texts 0 s.name) after_name,
        length-append (feature_fields 0 h.features) after_records,
        length-append (key_fields h.texts h.keys) after_table,
        length-append (value_fields h.texts h.values) after_contents,
        length-append (varint_field LayerExtent s.extent) (varint_field LayerVersion version),
      )

  -- the sizes of the parts, and of all of them
  module _ (S : Sound s h) where
    features_few : length (feature_fields 0 h.features) ≤ 51539607540
    features_few = omega (arith, S.few.features, features_short 0 0 h.features S.features)

    keys_few : length (key_fields h.texts h.keys) ≤ 281474977366016
    keys_few = omega (arith, S.few.keys, S.few.texts, keys_short h.texts h.keys 4294967295 S.few.texts)

    values_few : length (value_fields h.texts h.values) ≤ 281474978086912
    values_few = omega (arith, S.few.values, S.few.texts, values_short h.texts h.values 4294967295 S.few.texts)

    pub layer_short : length (layer_bytes s h) ≤ max_size
    layer_short =
        omega (arith, layer_long, text_short LayerName h.texts 0 s.name, S.few.texts, features_few, keys_few, values_few, varint_field_short LayerExtent s.extent, varint_field_short LayerVersion version)

    -- what each part's writer asks for
    pub name_inside : inside (length h.texts) 0 s.name ≡ true
    name_inside = le-leb (0 + s.name) (length h.texts) (omega (arith, S.name))

    pub features_sized : Writable (follow h.features ≡ true) (feature_fields 0 h.features) max_size
    features_sized = record { good = S.features; room = omega (arith, features_few) }

    pub keys_sized : Writable (keys_in (length h.texts) h.keys ≡ true) (key_fields h.texts h.keys) max_size
    keys_sized = record { good = S.keys; room = omega (arith, keys_few) }

    pub values_sized : Writable (values_in (length h.texts) h.values ≡ true) (value_fields h.texts h.values) max_size
    values_sized = record { good = S.values; room = omega (arith, values_few) }

    -- the size as the parts' sizes add up
    module _ (a b c d e : ℕ) (p : a ≡ length (text_field LayerName h.texts 0 s.name)) (q : b ≡ length (feature_fields 0 h.features)) (r : c ≡ length (key_fields h.texts h.keys)) (t : d ≡ length (value_fields h.texts h.values)) (u : e ≡ length (varint_field LayerExtent s.extent) + length (varint_field LayerVersion version)) where
      pub size_is : a + b + c + d + e ≡ length (layer_bytes s h)
      size_is = omega (arith, layer_long)

-- ---- the field
pub field_parts : (v : Seen) → layer_field v ≡ delimited TileLayer (layer_bytes v.layer v.held)
unfolding layer_field
field_parts v = refl

-- the size of the message, and what stands before it and before the name's text
module _ (v : Seen) (size lead : ℕ) (e : size ≡ length (layer_bytes v.layer v.held)) (f : lead ≡ length (varint_field TileLayer size)) where
  pub field_long : lead + size ≡ length (layer_field v)
  field_long = nested_long TileLayer (layer_bytes v.layer v.held) size e lead f ∙ sym (ap length (field_parts v))

  pub name_place : (k : ℕ) → k ≡ length (varint_field LayerName v.layer.name) → lead + k ≡ name_at v
  unfolding name_at
  name_place k g = omega (arith, f, g, ap (λ (n : ℕ). length (varint_field TileLayer n)) e)

-- the name's text stands there
module _ (v : Seen) (long : length (take v.layer.name v.held.texts) ≡ v.layer.name) where
  abbrev before : List ℕ
  before = varint_field TileLayer (length (layer_bytes v.layer v.held)) ++ varint_field LayerName (length (take v.layer.name v.held.texts))

  split : layer_field v ≡ before ++ (take v.layer.name v.held.texts ++ after_name v.layer v.held)
  split =
      field_parts v ∙ delimited_parts TileLayer (layer_bytes v.layer v.held)
      ∙ ap (λ (l : List ℕ). varint_field TileLayer (length (layer_bytes v.layer v.held)) ++ l)
      (layer_parts v.layer v.held
      ∙ ap (λ (l : List ℕ). l ++ after_name v.layer v.held) (text_field_lem LayerName v.held.texts 0 v.layer.name ∙ delimited_parts LayerName (take v.layer.name v.held.texts))
      ∙ append_assoc (varint_field LayerName (length (take v.layer.name v.held.texts))) (take v.layer.name v.held.texts) (after_name v.layer v.held))
      ∙ sym (append_assoc (varint_field TileLayer (length (layer_bytes v.layer v.held))) (varint_field LayerName (length (take v.layer.name v.held.texts))) (take v.layer.name v.held.texts ++ after_name v.layer v.held))

  place : length before ≡ name_at v
  unfolding name_at
  place =
      length-append (varint_field TileLayer (length (layer_bytes v.layer v.held))) (varint_field LayerName (length (take v.layer.name v.held.texts)))
      ∙ ap (λ (n : ℕ). length (varint_field TileLayer (length (layer_bytes v.layer v.held))) + length (varint_field LayerName n)) long

  behind : drop (name_at v) (layer_field v) ≡ take v.layer.name v.held.texts ++ after_name v.layer v.held
  behind = rw split (drop_at before (take v.layer.name v.held.texts ++ after_name v.layer v.held) (name_at v) place)

  pub name_there : take v.layer.name (drop (name_at v) (layer_field v)) ≡ take v.layer.name v.held.texts
  name_there = rw behind (take_at (take v.layer.name v.held.texts) (after_name v.layer v.held) v.layer.name long)

  pub name_upto : name_at v + v.layer.name ≤ length (layer_field v)
  name_upto = omega (arith, long, ap length split, length-append before (take v.layer.name v.held.texts ++ after_name v.layer v.held), length-append (take v.layer.name v.held.texts) (after_name v.layer v.held), place)

-- ---- of the lent lists, where the layer breaks no rule of STATE
follow_open : (f : Option Figures) (used : Figures) (ws : List ℕ) → length ws ≡ used.features → records_ok f used ws ≡ true → follow ws ≡ true
follow_open None used ws l e = e
follow_open (Some o) used ws l e =
    let P = open_parts (Some o) o used ws refl e in
    let i : o.features ≤ length ws = omega (arith, within o used P.room, l) in
    rw (take-append-drop o.features ws) at (follow_one (take o.features ws) (drop o.features ws) P.before (sym (one_whole ws o.features i) ∙ P.last))

module _ (s : Layer) (m : Memory) (ok : valid (seen s m) ≡ true) where
  pub fit_seen : Fit s.used (length m.keys) (length m.values) (length m.texts) (length m.features)
  fit_seen = valid_fit s m.keys m.values m.texts m.features ok

  pub sound_seen : Sound s (held_by s.used m)
  sound_seen =
      let P = parts (seen s m) ok in
      let F = fit_seen in
      let t : length (take s.used.texts m.texts) ≡ s.used.texts = length-take-le s.used.texts m.texts F.in_texts in
      record {
        few = record {
          keys = omega (arith, F.few_keys, length-take (s.used.keys * 2) m.keys);
          values = omega (arith, F.few_values, length-take (s.used.values * 3) m.values);
          texts = omega (arith, F.few_texts, t);
          features = omega (arith, F.few_features, length-take s.used.features m.features);
        };
        name = omega (arith, leb-true s.name s.used.texts P.name, t);
        keys = rw t P.keys;
        values = rw t P.values;
        features = follow_open s.feature s.used (take s.used.features m.features) (length-take-le s.used.features m.features F.in_features) P.records;
      }

  pub held_short : length (layer_bytes s (held_by s.used m)) ≤ max_size
  held_short = layer_short s (held_by s.used m) sound_seen

-- what stands beyond the used parts never matters
pub field_used : (s : Layer) (m n : Memory) → seen s m ≡ seen s n → layer_field (seen s m) ≡ layer_field (seen s n)
field_used s m n e = ap layer_field e
