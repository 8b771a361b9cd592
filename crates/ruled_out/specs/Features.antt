-- Crates `rollback` and `layer`: wrong runs of calls, wrong whole features and wrong lists of features.
use Rattle.std.specs.Prelude.{ℕ, suc, ◌+◌, ◌/◌, ◌%◌, ◌≡◌, refl, Bool, true, false, cond, ◌&&◌, List, [], ◌∷◌, ◌++◌, leb, eqb, length, take, drop, Some, None}
use Rattle.std.proofs.Common.{ap, arith}
use Rattle.promise.specs.Answers.{Written}
use Rattle.refusal.specs.declared.Refusal.{Refusal}
use Rattle.refusal.specs.declared.Refusal.TheVariants.{Kind, State, Room, Text as TextRefusal, Utf8, Turn, Again}
use Rattle.refusal.specs.Said.{Said}
use Rattle.whole.specs.Twos.{wide}
use Rattle.table.specs.Texts.{inside}
use Rattle.table.specs.Values.{value_ok}
use Rattle.words.specs.Geometries.{is_kind, max_words}
use Rattle.layer.specs.declared.Layer.{Layer}
use Rattle.layer.specs.declared.whole_feature.Head.{Head}
use Rattle.layer.specs.Held.{Memory, mem, Seen, seen, refuses, check, next}
use Rattle.layer.specs.State.{valid}
use Rattle.layer.specs.Calls.{is_shut, new_layer, record_with, Tag, if_room}
use Rattle.layer.specs.TagLists.{tag_ok, tags_short, tags_utf8, tag_of, tags_of, takes_keys}
use Rattle.layer.specs.Whole.{mark_of, feature_put, add_feature}
use Rattle.layer.specs.Lookup.{Index, idx, indexed}
use Rattle.layer.specs.Many.{Many, head_of, heads_ok, and_next, add_all, add_features, add_indexed}
use Rattle.rollback.specs.Runs.{closes, is_open_ended}
use Rattle.ruled_out.specs.Inputs.{bit, item, refusal_of, lent, layer_of, now, whole, broken}

-- ---- rollback
-- a completed feature is undone
pub closed_undone : is_open_ended closes ≡ true → ⊥
closed_undone h = let e : ◌≡◌ {A = ℕ} 0 1 = ap bit h in omega arith

-- a refusal changes what is seen
pub refused_written : ((r : Refusal) (v : Seen) → next (refuses r) v ≡ record { layer = v.layer; held = v.held; room = v.layer.used }) → ⊥
refused_written h = let e : ◌≡◌ {A = ℕ} 2 1 = ap (λ (v : Seen). v.room.keys) (h Room whole) in omega arith

-- ---- layer::whole_feature::add_feature: what is put
abbrev head_with : ℕ → Bool → ℕ → Head
head_with kind has id = record { kind = kind; has_id = has; id = id }

-- the first byte of the first tag's key
abbrev first_byte : List Tag → ℕ
first_byte [] = 0
first_byte (t ∷ ts) = item 0 t.key

-- the feature is left open
pub left_open : ((f : Head) (words : List ℕ) (ts : List Tag) (v : Seen) → (feature_put f words ts v).layer.feature ≡ Some v.layer.used) → ⊥
left_open h = let e : ◌≡◌ {A = ℕ} 1 0 = ap (λ o. bit (is_shut o)) (h (head_with 1 false 0) [] [] whole) in omega arith

-- the id is set though there is none
pub id_anyway : ((f : Head) → mark_of f ≡ 1) → ⊥
id_anyway h = let e : ◌≡◌ {A = ℕ} 0 1 = h (head_with 1 false 0) in omega arith

-- the halves of the id exchanged
pub halves_swapped : ((kind mark id : ℕ) (words : List ℕ)
    → record_with kind mark id words ≡ kind ∷ mark ∷ id / 4294967296 ∷ id % 4294967296 ∷ 0 ∷ length words ∷ words) → ⊥
halves_swapped h = let e : ◌≡◌ {A = ℕ} 7 0 = ap (item 2) (h 1 1 7 []) in omega arith

-- the tags are put from the last to the first
pub order_turned : ((start len kind low high : ℕ) (ws bytes : List ℕ)
    → tags_of bytes (start ∷ len ∷ kind ∷ low ∷ high ∷ ws) ≡ tags_of bytes ws ++ (tag_of bytes start len kind low high ∷ [])) → ⊥
order_turned h = let e : ◌≡◌ {A = ℕ} 97 98 = ap first_byte (h 0 1 5 1 0 (1 ∷ 1 ∷ 5 ∷ 1 ∷ 0 ∷ []) (97 ∷ 98 ∷ [])) in omega arith

-- a value of kind 8 is taken
pub kind_eight : ((bytes start len kind low high : ℕ)
    → tag_ok bytes start len kind low high ≡ (inside bytes start len && cond (eqb kind 8) true (value_ok bytes kind low high))) → ⊥
kind_eight h = let e : ◌≡◌ {A = ℕ} 0 1 = ap bit (h 0 0 0 8 0 0) in omega arith

-- ---- layer::whole_feature::add_feature: the checks
-- a list of tags that is none is taken
pub tag_list_unasked : ((f : Head) (words ws bytes : List ℕ) (v : Seen) → add_feature f words ws bytes v
    ≡ check (is_kind f.kind) Kind (check (valid v) State (check (tags_short ws) TextRefusal (check (tags_utf8 (tags_of bytes ws)) Utf8
    (check (is_shut v.layer.feature) Turn (check (takes_keys v.layer.strict bytes ws) Again
    (check (leb (length words) max_words) Room (if_room (feature_put f words (tags_of bytes ws) v))))))))) → ⊥
unfolding valid
tag_list_unasked h = let e : ◌≡◌ {A = ℕ} 1 2 = ap refusal_of (h (head_with 9 false 0) [] (1 ∷ []) [] whole) in omega arith

-- STATE is asked before KIND
pub kind_behind : ((f : Head) (words ws bytes : List ℕ) (v : Seen) → valid v ≡ false → add_feature f words ws bytes v ≡ refuses State) → ⊥
unfolding valid broken
kind_behind h = let e : ◌≡◌ {A = ℕ} 2 4 = ap refusal_of (h (head_with 9 false 0) [] [] [] broken refl) in omega arith

-- ---- layer::many::add_features
-- an id whose halves are exchanged
pub id_turned : ((kind mark low high : ℕ) → head_of kind mark low high ≡ record { kind = kind; has_id = eqb mark 1; id = wide high low }) → ⊥
id_turned h = let e : ◌≡◌ {A = ℕ} 7 30064771072 = ap (λ (f : Head). f.id) (h 1 1 7 0) in omega arith

-- words that no head tells are passed over
pub words_left_over : ((words tags : ℕ) → heads_ok words tags [] ≡ true) → ⊥
words_left_over h = let e : ◌≡◌ {A = ℕ} 0 1 = ap bit (h 1 0) in omega arith

-- each feature is counted twice
pub counted_twice : ((n kind mark low high w t : ℕ) (hs words ws bytes : List ℕ) (s : Layer) (m : Memory)
    → add_all n (kind ∷ mark ∷ low ∷ high ∷ w ∷ t ∷ hs) words ws bytes s m
    ≡ and_next (add_feature (head_of kind mark low high) (take w words) (take t ws) bytes (seen s m)) s m n
    (λ u l. add_all (n + 2) hs (drop w words) (drop t ws) bytes u l)) → ⊥
unfolding valid
counted_twice h =
    let e : ◌≡◌ {A = ℕ} 1 2 = ap (λ (a : Written (Said Many) Memory). a.answer.values.count) (h 0 1 0 0 0 0 0 [] [] [] [] (layer_of now None) lent)
    in omega arith

-- each feature takes the first words
pub words_elsewhere : ((n kind mark low high w t : ℕ) (hs words ws bytes : List ℕ) (s : Layer) (m : Memory)
    → add_all n (kind ∷ mark ∷ low ∷ high ∷ w ∷ t ∷ hs) words ws bytes s m
    ≡ and_next (add_feature (head_of kind mark low high) (take w words) (take t ws) bytes (seen s m)) s m n
    (λ u l. add_all (suc n) hs words (drop t ws) bytes u l)) → ⊥
unfolding valid
words_elsewhere h =
    let e : ◌≡◌ {A = ℕ} 8 7 = ap (λ (a : Written (Said Many) Memory). item 13 a.memory.features)
    (h 0 1 0 0 0 1 0 (1 ∷ 0 ∷ 0 ∷ 0 ∷ 1 ∷ 0 ∷ []) (7 ∷ 8 ∷ []) [] [] (new_layer [] 4096)
    (mem [] [] [] (0 ∷ 0 ∷ 0 ∷ 0 ∷ 0 ∷ 0 ∷ 0 ∷ 0 ∷ 0 ∷ 0 ∷ 0 ∷ 0 ∷ 0 ∷ 0 ∷ [])))
    in omega arith

-- refused features are counted
pub refused_counted : ((heads words ws bytes : List ℕ) (s : Layer) (m : Memory)
    → (add_features heads words ws bytes s m).answer.values.count ≡ length heads / 6) → ⊥
unfolding valid
refused_counted h = let e : ◌≡◌ {A = ℕ} 0 1 = h (0 ∷ 0 ∷ 0 ∷ 0 ∷ 0 ∷ 0 ∷ []) [] [] [] (layer_of now None) lent in omega arith

-- no heads take a layer that breaks a rule
pub no_heads_unasked : ((bytes : List ℕ) (s : Layer) (m : Memory) → (add_features [] [] [] bytes s m).answer.number ≡ 0) → ⊥
unfolding valid
no_heads_unasked h = let e : ◌≡◌ {A = ℕ} 4 0 = h [] broken.layer (mem [] [] [] []) in omega arith

-- the indexes are built though no feature was accepted
pub built_for_none : ((heads words ws bytes : List ℕ) (s : Layer) (m : Memory) (x : Index) → (add_indexed heads words ws bytes s m x).memory.index
    ≡ indexed (seen (add_features heads words ws bytes s m).answer.values.layer (add_features heads words ws bytes s m).memory) x) → ⊥
unfolding valid
built_for_none h =
    let e : ◌≡◌ {A = ℕ} 9 0 = ap (λ (x : Index). item 0 x.keys) (h [] [] [] [] (layer_of now None) (mem [] [] [] []) (idx (9 ∷ 9 ∷ []) [])) in omega arith
