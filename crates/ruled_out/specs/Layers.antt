-- Crate `layer`: wrong rooms, wrong STATE, and wrong answers of the calls on a layer.
use Rattle.std.specs.Prelude.{ℕ, ◌+◌, ◌/◌, ◌≡◌, false, cond, ◌&&◌, List, [], ◌∷◌, ◌++◌, leb, length, take, get_or, replicate, Some, None}
use Rattle.std.proofs.Common.{ap, arith}
use Rattle.promise.specs.Laid.{lay}
use Rattle.refusal.specs.declared.Refusal.TheVariants.{Kind, State, Room, Turn}
use Rattle.refusal.specs.Said.{Said}
use Rattle.words.specs.Geometries.{is_kind, max_words}
use Rattle.table.specs.Keys.{keys_in}
use Rattle.table.specs.Values.{values_in}
use Rattle.records.specs.Records.{follow, one_record}
use Rattle.layer.specs.declared.Figures.{Figures}
use Rattle.layer.specs.declared.Layer.{Layer}
use Rattle.layer.specs.Held.{mem, Seen, seen, Change, holds, check, when_open, fits, room_of, held_by, smaller, max_values, max_texts}
use Rattle.layer.specs.Answers.{Told, tells}
use Rattle.layer.specs.State.{records_ok, valid}
use Rattle.layer.specs.Calls.{is_shut, more_words, with_used, with_features, new_record, opened, into_feature, marked, set_id, into_layer, abandoned}
use Rattle.layer.specs.Calls.{new_layer}
use Rattle.layer.specs.Calls.{created, complete, num_features, tags_in, num_tags, name_of}
use Rattle.ruled_out.specs.Inputs.{bit, item, figures, refusal_of, used_after, held_after, open_after, first_extent, first_start, first_length, lent, layer_of}
use Rattle.ruled_out.specs.Inputs.{before, now, whole, begun, broken}

-- ---- Layer::room, has_room_for, fits_in
-- the cap of keys left out
pub key_cap : ((keys values texts features : ℕ) → (room_of keys values texts features).keys ≡ keys / 2) → ⊥
key_cap h = let e : ◌≡◌ {A = ℕ} 65536 100000 = h 200000 0 0 0 in omega arith

-- a value takes two words
pub values_halved : ((keys values texts features : ℕ) → (room_of keys values texts features).values ≡ smaller (values / 2) max_values) → ⊥
values_halved h = let e : ◌≡◌ {A = ℕ} 2 3 = h 0 6 0 0 in omega arith

-- the features' figure is not asked
pub features_unasked : ((a b : Figures) → fits a b ≡ (leb a.keys b.keys && (leb a.values b.values && leb a.texts b.texts))) → ⊥
features_unasked h = let e : ◌≡◌ {A = ℕ} 0 1 = ap bit (h (figures 0 0 0 1) (figures 0 0 0 0)) in omega arith

-- ---- is_valid
-- the rule of used figures left out
pub over_room : ((v : Seen) → valid v ≡ (leb v.layer.name v.layer.used.texts && (keys_in v.layer.used.texts v.held.keys
    && (values_in v.layer.used.texts v.held.values && records_ok v.layer.feature v.layer.used v.held.features)))) → ⊥
unfolding valid
over_room h = let e : ◌≡◌ {A = ℕ} 0 1 = ap bit (h broken) in omega arith

-- the rule of the name's text left out
pub name_past : ((v : Seen) → valid v ≡ (fits v.layer.used v.room && (keys_in v.layer.used.texts v.held.keys
    && (values_in v.layer.used.texts v.held.values && records_ok v.layer.feature v.layer.used v.held.features)))) → ⊥
unfolding valid
name_past h =
    let e : ◌≡◌ {A = ℕ} 0 1 = ap bit (h (seen (record { extent = 4096; strict = false; name = 9; used = figures 0 0 3 0; feature = None }) lent)) in omega arith

-- the rule of opening figures left out
pub opening_over : ((o used : Figures) (ws : List ℕ) → records_ok (Some o) used ws ≡ (follow (take o.features ws) && one_record ws o.features)) → ⊥
opening_over h = let e : ◌≡◌ {A = ℕ} 0 1 = ap bit (h (figures 9 0 0 0) now (1 ∷ 0 ∷ 0 ∷ 0 ∷ 0 ∷ 0 ∷ [])) in omega arith

-- the last record is looked for at the used end
pub last_elsewhere : ((o used : Figures) (ws : List ℕ)
    → records_ok (Some o) used ws ≡ (fits o used && (follow (take o.features ws) && one_record ws used.features))) → ⊥
last_elsewhere h = let e : ◌≡◌ {A = ℕ} 1 0 = ap bit (h before (figures 0 0 1 6) (1 ∷ 0 ∷ 0 ∷ 0 ∷ 0 ∷ 0 ∷ [])) in omega arith

-- ---- Layer::new
-- the name's bytes are not counted
pub name_unused : ((name : List ℕ) (extent : ℕ)
    → new_layer name extent ≡ record { extent = extent; strict = false; name = length name; used = figures 0 0 0 0; feature = None }) → ⊥
name_unused h = let e : ◌≡◌ {A = ℕ} 1 0 = ap (λ (s : Layer). s.used.texts) (h (97 ∷ []) 4096) in omega arith

-- the name is not written
pub name_unwritten : ((name ts : List ℕ) (extent : ℕ) → (created name extent ts).memory ≡ ts) → ⊥
name_unwritten h = let e : ◌≡◌ {A = ℕ} 97 0 = ap (item 0) (h (97 ∷ []) (0 ∷ []) 4096) in omega arith

-- ROOM is asked before TEXT
pub name_room_before_text : ((name ts : List ℕ) (extent : ℕ)
    → (created name extent ts).answer.number ≡ cond (leb (length name) (smaller (length ts) max_texts)) (created name extent ts).answer.number 7) → ⊥
name_room_before_text h = let e : ◌≡◌ {A = ℕ} 11 7 = h (replicate 1025 97) [] 4096 in omega arith

-- each layer has the extent 4096
pub extent_4096 : ((name ts : List ℕ) (extent : ℕ) → created name extent ts ≡ created name 4096 ts) → ⊥
extent_4096 h = let e : ◌≡◌ {A = ℕ} 512 4096 = ap (λ w. first_extent w.answer.values) (h (97 ∷ []) (0 ∷ []) 512) in omega arith

-- ---- into_feature
-- a second feature is opened while one is open
pub open_twice : ((kind : ℕ) (words : List ℕ) (v : Seen)
    → into_feature kind words v ≡ check (is_kind kind) Kind (check (valid v) State (opened kind words v))) → ⊥
unfolding valid
open_twice h = let e : ◌≡◌ {A = ℕ} 12 0 = ap refusal_of (h 1 [] begun) in omega arith

-- STATE is asked before KIND
pub state_before_kind : ((kind : ℕ) (words : List ℕ) (v : Seen)
    → into_feature kind words v ≡ check (valid v) State (check (is_kind kind) Kind (check (is_shut v.layer.feature) Turn (opened kind words v)))) → ⊥
unfolding valid
state_before_kind h = let e : ◌≡◌ {A = ℕ} 2 4 = ap refusal_of (h 0 [] broken) in omega arith

-- the two counts of a new record exchanged
pub counts_turned : ((kind : ℕ) (words : List ℕ) → new_record kind words ≡ kind ∷ 0 ∷ 0 ∷ 0 ∷ length words ∷ 0 ∷ words) → ⊥
counts_turned h = let e : ◌≡◌ {A = ℕ} 0 1 = ap (item 4) (h 1 (15 ∷ [])) in omega arith

-- the opening figures are those after opening
pub opened_after : ((kind : ℕ) (words : List ℕ) (v : Seen) → opened kind words v
    ≡ check (leb (length words) max_words) Room (check (fits (more_words v.layer.used (6 + length words)) v.room) Room (holds
    (with_used v.layer (more_words v.layer.used (6 + length words)) (Some (more_words v.layer.used (6 + length words))))
    (with_features v.held (v.held.features ++ new_record kind words))))) → ⊥
opened_after h = let e : ◌≡◌ {A = ℕ} 12 18 = ap open_after (h 1 [] whole) in omega arith

-- ---- set_id
-- the id is not marked
pub id_unmarked : ((low high : ℕ) (v : Seen) (o : Figures)
    → marked low high v o ≡ holds v.layer (with_features v.held (lay (o.features + 2) (low ∷ high ∷ []) v.held.features))) → ⊥
id_unmarked h =
    let e : ◌≡◌ {A = ℕ} 1 0 = ap (λ c. item 1 (held_after c).features)
    (h 5 0 (seen (layer_of (figures 0 0 1 6) (Some before)) (mem [] [] (97 ∷ []) (2 ∷ 0 ∷ 0 ∷ 0 ∷ 0 ∷ 0 ∷ []))) before)
    in omega arith

-- the two halves of the id exchanged
pub id_halves_exchanged : ((low high : ℕ) (v : Seen) → set_id low high v ≡ set_id high low v) → ⊥
unfolding valid
id_halves_exchanged h = let e : ◌≡◌ {A = ℕ} 5 0 = ap (λ c. item 2 (held_after c).features) (h 5 0 begun) in omega arith

-- the id goes over the record's kind
pub id_elsewhere : ((low high : ℕ) (v : Seen) (o : Figures)
    → marked low high v o ≡ holds v.layer (with_features v.held (lay o.features (1 ∷ low ∷ high ∷ []) v.held.features))) → ⊥
id_elsewhere h = let e : ◌≡◌ {A = ℕ} 7 5 = ap (λ c. item 2 (held_after c).features) (h 7 5 begun before) in omega arith

-- a feature call with none open is accepted
pub no_turn : ((go : Figures → Change) → when_open None go ≡ go (figures 0 0 0 0)) → ⊥
no_turn h = let e : ◌≡◌ {A = ℕ} 12 0 = ap refusal_of (h (λ o. holds (layer_of o None) lent)) in omega arith

-- ---- into_layer
-- completing leaves the feature open
pub closed_open : ((v : Seen) → into_layer v ≡ check (valid v) State (when_open v.layer.feature (λ o. holds v.layer v.held))) → ⊥
unfolding valid
closed_open h = let e : ◌≡◌ {A = ℕ} 0 1 = ap open_after (h begun) in omega arith

-- completing cuts the figures back
pub closed_cut : ((v : Seen) → into_layer v ≡ check (valid v) State (when_open v.layer.feature (λ o. holds (with_used v.layer o None) v.held))) → ⊥
unfolding valid
closed_cut h = let e : ◌≡◌ {A = ℕ} 1 0 = ap (λ c. (used_after c).keys) (h begun) in omega arith

-- ---- abandon
-- abandoning keeps the keys
pub keeps_keys : ((v : Seen) → abandoned v ≡ check (valid v) State (when_open v.layer.feature
    (λ o. holds (with_used v.layer (figures v.layer.used.keys o.values o.texts o.features) None) (held_by o v.held)))) → ⊥
unfolding valid
keeps_keys h = let e : ◌≡◌ {A = ℕ} 0 1 = ap (λ c. (used_after c).keys) (h begun) in omega arith

-- abandoning keeps the texts
pub keeps_texts : ((v : Seen) → abandoned v ≡ check (valid v) State (when_open v.layer.feature
    (λ o. holds (with_used v.layer (figures o.keys o.values v.layer.used.texts o.features) None) (held_by o v.held)))) → ⊥
unfolding valid
keeps_texts h = let e : ◌≡◌ {A = ℕ} 1 3 = ap (λ c. (used_after c).texts) (h begun) in omega arith

-- abandoning completes
pub abandon_completes : ((v : Seen) → abandoned v ≡ into_layer v) → ⊥
unfolding valid
abandon_completes h = let e : ◌≡◌ {A = ℕ} 0 11 = ap (λ c. (used_after c).features) (h begun) in omega arith

-- abandoning leaves the feature open
pub abandon_stays_open : ((v : Seen)
    → abandoned v ≡ check (valid v) State (when_open v.layer.feature (λ o. holds (with_used v.layer o v.layer.feature) (held_by o v.held)))) → ⊥
unfolding valid
abandon_stays_open h = let e : ◌≡◌ {A = ℕ} 0 1 = ap open_after (h begun) in omega arith

-- ---- num_features, num_tags, name
-- the open feature is counted
pub open_counted : ((o used : Figures) → complete (Some o) used ≡ used.features) → ⊥
open_counted h = let e : ◌≡◌ {A = ℕ} 0 11 = h before now in omega arith

-- the words are counted, and not the features
pub words_counted : ((v : Seen) → (num_features v).values.told ≡ v.layer.used.features) → ⊥
unfolding valid
words_counted h = let e : ◌≡◌ {A = ℕ} 1 11 = h whole in omega arith

-- the geometry's words are told as tag words
pub geometry_as_tags : ((o : Figures) (v : Seen) → tags_in (Some o) v ≡ tells (get_or v.held.features (o.features + 5) 0)) → ⊥
geometry_as_tags h = let e : ◌≡◌ {A = ℕ} 2 3 = ap (λ (a : Said (Told ℕ)). a.values.told) (h before begun) in omega arith

-- with no feature open there are no tags
pub no_tags_unopened : ((v : Seen) → (num_tags v).number ≡ cond (valid v) 0 4) → ⊥
unfolding valid
no_tags_unopened h = let e : ◌≡◌ {A = ℕ} 12 0 = h whole in omega arith

-- the name is all the texts
pub name_all_texts : ((v : Seen) → (name_of v).values.told ≡ record { start = 0; len = v.layer.used.texts } ∷ []) → ⊥
unfolding valid
name_all_texts h = let e : ◌≡◌ {A = ℕ} 1 3 = ap first_length (h whole) in omega arith

-- the name is the second text
pub name_second : ((v : Seen) → (name_of v).values.told ≡ record { start = v.layer.name; len = v.layer.name } ∷ []) → ⊥
unfolding valid
name_second h = let e : ◌≡◌ {A = ℕ} 0 1 = ap first_start (h whole) in omega arith
