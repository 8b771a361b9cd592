-- The structs that C is told, case by case of what they are made from.
use Prim.Native.Nat.{ℕ}
use mathlib.Core.Path.{◌≡◌, refl, sym, ap, ◌∙◌}
use mathlib.Core.List.{List}
use Rattle.std.specs.Prelude.{Some, None, Result, Ok, Err, is_some, unwrap_or}
use Rattle.promise.specs.Answers.{Written}
use Rattle.refusal.specs.declared.Fault.{Fault}
use Rattle.refusal.specs.Refusals.{number_of}
use Rattle.telling.specs.Telling.{told}
use Rattle.messages.specs.Tiles.{Verdict, Answers}
use Rattle.reader.specs.declared.layers.Part.{Part}
use Rattle.reader.specs.declared.layers.LayerHead.{LayerHead}
use Rattle.reader.specs.declared.features.FeatureHead.{FeatureHead}
use Rattle.reader.specs.declared.entries.ValueAt.{ValueAt}
use Rattle.reader.specs.Answers.{NextLayer, NextFeature, NextKey, NextValue, Laid}
use Rattle.brinepost_reader.specs.declared.layers.BpNextLayer.{BpNextLayer}
use Rattle.brinepost_reader.specs.declared.features.BpNextFeature.{BpNextFeature}
use Rattle.brinepost_reader.specs.declared.entries.BpNextKey.{BpNextKey}
use Rattle.brinepost_reader.specs.declared.entries.BpNextValue.{BpNextValue}
use Rattle.brinepost_reader.specs.Flat.{as_told, flat_opened, no_layer, flat_layer, bit_of, no_feature, flat_feature, no_key, flat_key, no_value, flat_value, flat_words}

-- ---- what is told of an answer goes by the verdict by which the answer goes
pub told_answers : {A B : Type 0} (src : List ℕ) (flat : A → B) (answer : Verdict → A) (a : A) (b : B) → Answers src answer a → b ≡ flat a → Answers src (as_told flat answer) b
told_answers src flat answer a b h e = record { verdict = h.verdict; judged = h.judged; is = e ∙ ap flat h.is }

-- the same where a list is lent
pub told_written : {A B M : Type 0} (src : List ℕ) (flat : A → B) (answer : Verdict → Written A M) (a : A) (b : B) (m : M) → Answers src answer (record { answer = a; memory = m }) → b ≡ flat a → Answers src (as_told (told flat) answer) (record { answer = b; memory = m })
unfolding told
told_written {B = B} src flat answer a b m h e =
    record { verdict = h.verdict; judged = h.judged; is = ap (λ (x : B). record { answer = x; memory = m }) e ∙ ap (told flat) h.is }

-- ---- a tile
pub opened_good : {r : Result ℕ Fault} {n : ℕ} → r ≡ Ok n → record { refusal = 0; place = 0; layers = n } ≡ flat_opened r
unfolding flat_opened
opened_good e = rw e refl

pub opened_not : {r : Result ℕ Fault} {f : Fault} {n : ℕ} → r ≡ Err f → n ≡ number_of f.refusal → record { refusal = n; place = f.place; layers = 0 } ≡ flat_opened r
unfolding flat_opened
opened_not e h = rw (e, h) refl

-- ---- a layer
pub layer_is : {r : NextLayer} {h : LayerHead} → r ≡ Ok (Some h) → record { refusal = 0; is_there = 1; place = 0; version = h.version; extent = h.extent; name_start = h.name.start; name_len = h.name.len; keys = h.keys; values = h.values; features = h.features; start = h.start; end = h.end } ≡ flat_layer r
unfolding flat_layer
layer_is e = rw (e) refl

pub layer_end : {r : NextLayer} {a : BpNextLayer} → r ≡ Ok None → a ≡ no_layer 0 0 → a ≡ flat_layer r
unfolding flat_layer
layer_end e d = rw e d

pub layer_not : {r : NextLayer} {f : Fault} {n : ℕ} {a : BpNextLayer} → r ≡ Err f → n ≡ number_of f.refusal → a ≡ no_layer n f.place → a ≡ flat_layer r
unfolding flat_layer
layer_not {f = f} e h d = rw e (d ∙ ap (λ (m : ℕ). no_layer m f.place) h)

-- ---- a feature
pub feature_is : {r : NextFeature} {h : FeatureHead} {b i : ℕ} → r ≡ Ok (Some h) → b ≡ bit_of (is_some h.id) → i ≡ unwrap_or h.id 0 → record { refusal = 0; is_there = 1; place = 0; has_id = b; kind = h.kind; id = i; tags = h.tags; words = h.words; start = h.start; end = h.end } ≡ flat_feature r
unfolding flat_feature
feature_is e d g = rw (e, d, g) refl

pub feature_end : {r : NextFeature} {a : BpNextFeature} → r ≡ Ok None → a ≡ no_feature 0 0 → a ≡ flat_feature r
unfolding flat_feature
feature_end e d = rw e d

pub feature_not : {r : NextFeature} {f : Fault} {n : ℕ} {a : BpNextFeature} → r ≡ Err f → n ≡ number_of f.refusal → a ≡ no_feature n f.place → a ≡ flat_feature r
unfolding flat_feature
feature_not {f = f} e h d = rw e (d ∙ ap (λ (m : ℕ). no_feature m f.place) h)

-- ---- a key
pub key_is_lem : {r : NextKey} {h : Part} → r ≡ Ok (Some h) → record { refusal = 0; is_there = 1; place = 0; start = h.start; len = h.len } ≡ flat_key r
unfolding flat_key
key_is_lem e = rw (e) refl

pub key_end : {r : NextKey} {a : BpNextKey} → r ≡ Ok None → a ≡ no_key 0 0 → a ≡ flat_key r
unfolding flat_key
key_end e d = rw e d

pub key_not : {r : NextKey} {f : Fault} {n : ℕ} {a : BpNextKey} → r ≡ Err f → n ≡ number_of f.refusal → a ≡ no_key n f.place → a ≡ flat_key r
unfolding flat_key
key_not {f = f} e h d = rw e (d ∙ ap (λ (m : ℕ). no_key m f.place) h)

-- ---- a value
pub value_is_lem : {r : NextValue} {h : ValueAt} → r ≡ Ok (Some h) → record { refusal = 0; is_there = 1; place = 0; kind = h.kind; start = h.text.start; len = h.text.len; bits = h.bits; next = h.end } ≡ flat_value r
unfolding flat_value
value_is_lem e = rw (e) refl

pub value_end : {r : NextValue} {a : BpNextValue} → r ≡ Ok None → a ≡ no_value 0 0 → a ≡ flat_value r
unfolding flat_value
value_end e d = rw e d

pub value_not : {r : NextValue} {f : Fault} {n : ℕ} {a : BpNextValue} → r ≡ Err f → n ≡ number_of f.refusal → a ≡ no_value n f.place → a ≡ flat_value r
unfolding flat_value
value_not {f = f} e h d = rw e (d ∙ ap (λ (m : ℕ). no_value m f.place) h)

-- ---- a feature's numbers
pub words_are : {r : Laid} {n : ℕ} → r ≡ Ok n → record { refusal = 0; place = 0; count = n } ≡ flat_words r
unfolding flat_words
words_are e = rw e refl

pub words_not : {r : Laid} {f : Fault} {n : ℕ} → r ≡ Err f → n ≡ number_of f.refusal → record { refusal = n; place = f.place; count = 0 } ≡ flat_words r
unfolding flat_words
words_not e h = rw (e, h) refl
