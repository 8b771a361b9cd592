-- Crate `layer`: AGAIN by other rules, out of its turn, and the choice lost.
use Rattle.std.specs.Prelude.{ℕ, ◌+◌, ◌*◌, ◌/◌, ◌≡◌, refl, Bool, true, false, cond, not, List, [], ◌∷◌, leb, eqb, length, get_or, Some, None}
use Rattle.std.proofs.Common.{ap, arith}
use Rattle.promise.specs.Answers.{Written}
use Rattle.refusal.specs.declared.Refusal.TheVariants.{Job, Kind, State, Room, Text as TextRefusal, Utf8, Turn, Again}
use Rattle.refusal.specs.Said.{Said}
use Rattle.table.specs.Texts.{short_text, same_text}
use Rattle.table.specs.Keys.{find_key, index_of}
use Rattle.utf8.specs.Utf8.{is_utf8}
use Rattle.records.specs.Records.{is_found}
use Rattle.words.specs.Geometries.{is_kind, max_words}
use Rattle.layer.specs.declared.Figures.{Figures}
use Rattle.layer.specs.declared.Layer.{Layer}
use Rattle.layer.specs.declared.whole_feature.Head.{Head}
use Rattle.layer.specs.Held.{Memory, mem, Seen, seen, Change, refuses, holds, check, when_open, fits}
use Rattle.layer.specs.State.{valid}
use Rattle.layer.specs.Calls.{is_shut, Tag, tag_put, tagged, is_key, has_key, last_tags, takes_key, tagged_once, add_tag, abandoned, tag_string, tag_bits, created, chosen, created_strict, if_room}
use Rattle.layer.specs.TagLists.{tags_ok, tags_short, tags_utf8, tags_of, key_given, keys_once, takes_keys}
use Rattle.layer.specs.Whole.{feature_put, add_feature}
use Rattle.ruled_out.specs.Inputs.{bit, refusal_of, layer_of, lent, before, now}

-- the layer of specs/Inputs, strict: complete, with its feature open, and open in lists that are full
abbrev strict_whole : Seen
strict_whole = seen (chosen true (layer_of now None)) lent

abbrev strict_begun : Seen
strict_begun = seen (chosen true (layer_of now (Some before))) lent

abbrev strict_full : Seen
strict_full = seen (chosen true (layer_of now (Some before))) (mem (1 ∷ 1 ∷ []) (1 ∷ 2 ∷ 1 ∷ []) (97 ∷ 107 ∷ 118 ∷ []) (1 ∷ 1 ∷ 7 ∷ 0 ∷ 2 ∷ 3 ∷ 9 ∷ 4 ∷ 4 ∷ 0 ∷ 0 ∷ []))

-- ---- what the feature has already
-- by the index alone: of the keys a and a, the feature has the second
abbrev has_index : List ℕ → ℕ → Bool
has_index [] j = false
has_index (k ∷ []) j = false
has_index (k ∷ v ∷ ws) j = cond (eqb k j) true (has_index ws j)

pub by_index_only : ((ks ts ws key : List ℕ) → has_key ks ts ws key ≡ has_index ws (index_of (find_key 0 ks ts key) (length ks / 2))) → ⊥
by_index_only h = let e : ◌≡◌ {A = ℕ} 1 0 = ap bit (h (0 ∷ 1 ∷ 0 ∷ 1 ∷ []) (97 ∷ []) (1 ∷ 0 ∷ []) (97 ∷ [])) in omega arith

-- in every feature: a key of the table is refused
pub in_every_feature : ((m : Memory) (at : ℕ) (key : List ℕ) → takes_key true m at key ≡ not (is_found (find_key 0 m.keys m.texts key))) → ⊥
in_every_feature h = let e : ◌≡◌ {A = ℕ} 1 0 = ap bit (h (mem (0 ∷ 1 ∷ []) [] (97 ∷ []) (1 ∷ 0 ∷ 0 ∷ 0 ∷ 0 ∷ 0 ∷ [])) 0 (97 ∷ [])) in omega arith

-- by the last tag alone
pub last_tag_alone : ((ks ts : List ℕ) (k v : ℕ) (ws key : List ℕ) → has_key ks ts (k ∷ v ∷ ws) key ≡ has_key ks ts ws key) → ⊥
last_tag_alone h = let e : ◌≡◌ {A = ℕ} 1 0 = ap bit (h (0 ∷ 1 ∷ []) (97 ∷ []) 0 0 [] (97 ∷ [])) in omega arith

-- by the values' indices
pub by_values : ((ks ts : List ℕ) (k v : ℕ) (key : List ℕ) → has_key ks ts (k ∷ v ∷ []) key ≡ is_key ks ts v key) → ⊥
by_values h = let e : ◌≡◌ {A = ℕ} 1 0 = ap bit (h (0 ∷ 1 ∷ []) (97 ∷ []) 0 1 (97 ∷ [])) in omega arith

-- a lone last word is a tag
pub lone_word : ((ks ts : List ℕ) (k : ℕ) (key : List ℕ) → has_key ks ts (k ∷ []) key ≡ is_key ks ts k key) → ⊥
lone_word h = let e : ◌≡◌ {A = ℕ} 0 1 = ap bit (h (0 ∷ 1 ∷ []) (97 ∷ []) 0 (97 ∷ [])) in omega arith

-- an index beyond the keys is that of the empty key
pub beyond_the_keys : ((ks ts : List ℕ) (k : ℕ) (key : List ℕ) → is_key ks ts k key ≡ same_text ts (get_or ks (k * 2) 0) (get_or ks (k * 2 + 1) 0) key) → ⊥
beyond_the_keys h = let e : ◌≡◌ {A = ℕ} 0 1 = ap bit (h [] [] 0 []) in omega arith

-- the geometry is looked through too
pub geometry_too : ((ws : List ℕ) (at : ℕ) → length (last_tags ws at) ≡ get_or ws (at + 4) 0 + get_or ws (at + 5) 0) → ⊥
geometry_too h = let e : ◌≡◌ {A = ℕ} 0 1 = h (1 ∷ 0 ∷ 0 ∷ 0 ∷ 0 ∷ 1 ∷ 15 ∷ []) 0 in omega arith

-- an ordinary layer looks too
pub ordinary_looks : ((b : Bool) (m : Memory) (at : ℕ) (key : List ℕ) → takes_key b m at key ≡ takes_key true m at key) → ⊥
ordinary_looks h = let e : ◌≡◌ {A = ℕ} 1 0 = ap bit (h false (mem (0 ∷ 1 ∷ []) [] (97 ∷ []) (1 ∷ 0 ∷ 0 ∷ 0 ∷ 2 ∷ 0 ∷ 0 ∷ 0 ∷ [])) 0 (97 ∷ [])) in omega arith

-- ---- the tag calls
-- no layer looks
pub never_again : ((t : Tag) (v : Seen) (o : Figures) → tagged_once t v o ≡ tagged t v o) → ⊥
never_again h = let e : ◌≡◌ {A = ℕ} 23 0 = ap refusal_of (h (tag_bits 5 (107 ∷ []) 5) strict_begun before) in omega arith

-- the same key with the same value is taken
pub same_value_taken : ((t : Tag) (v : Seen) → is_found (find_key 0 v.held.keys v.held.texts t.key) ≡ true → refusal_of (add_tag t v) ≡ 0) → ⊥
unfolding valid
same_value_taken h = let e : ◌≡◌ {A = ℕ} 23 0 = h (tag_string (107 ∷ []) (118 ∷ [])) strict_begun refl in omega arith

-- AGAIN is asked before TURN: of the last feature where none is open
pub again_before_turn : ((t : Tag) (v : Seen) → v.layer.strict ≡ true → has_key v.held.keys v.held.texts (last_tags v.held.features 0) t.key ≡ true
    → add_tag t v ≡ check (valid v) State (refuses Again)) → ⊥
unfolding valid
again_before_turn h = let e : ◌≡◌ {A = ℕ} 12 23 = ap refusal_of (h (tag_string (107 ∷ []) []) strict_whole refl refl) in omega arith

-- ROOM is asked before AGAIN
pub room_before_again : ((t : Tag) (v : Seen) (o : Figures) → tagged_once t v o ≡ check (fits (tag_put o t v).layer.used v.room) Room
    (check (takes_key v.layer.strict v.held o.features t.key) Again (holds (tag_put o t v).layer (tag_put o t v).held))) → ⊥
room_before_again h = let e : ◌≡◌ {A = ℕ} 23 7 = ap refusal_of (h (tag_bits 5 (107 ∷ []) 5) strict_full before) in omega arith

-- UTF8 is asked after AGAIN
pub utf8_after_again : ((t : Tag) (v : Seen) → add_tag t v ≡ check (valid v) State (check (short_text (length t.key)) TextRefusal
    (check (short_text (length t.text)) TextRefusal (check (is_utf8 t.key) Utf8 (when_open v.layer.feature
    (λ o. check (takes_key v.layer.strict v.held o.features t.key) Again (check (is_utf8 t.text) Utf8 (tagged t v o)))))))) → ⊥
unfolding valid
utf8_after_again h = let e : ◌≡◌ {A = ℕ} 22 23 = ap refusal_of (h (tag_string (107 ∷ []) (0xFF ∷ [])) strict_begun) in omega arith

-- ---- the choice
-- it is lost at abandoning
abbrev choice_of : Change → ℕ
choice_of (refuses r) = 2
choice_of (holds t h) = bit t.strict

pub lost_at_abandoning : ((v : Seen) → choice_of (abandoned v) ≡ 0) → ⊥
unfolding valid
lost_at_abandoning h = let e : ◌≡◌ {A = ℕ} 1 0 = h strict_begun in omega arith

-- a layer asked to be strict is an ordinary one, or the other way round
abbrev first_choice : List Layer → ℕ
first_choice [] = 2
first_choice (s ∷ ss) = bit s.strict

pub strict_unasked : ((name : List ℕ) (extent : ℕ) (ts : List ℕ) → created_strict name extent ts ≡ created name extent ts) → ⊥
strict_unasked h = let e : ◌≡◌ {A = ℕ} 1 0 = ap (λ (w : Written (Said (List Layer)) (List ℕ)). first_choice w.answer.values) (h [] 0 []) in omega arith

-- a strict layer is refused where an ordinary one is not
pub strict_refused : ((name : List ℕ) (extent : ℕ) (ts : List ℕ) → (created_strict name extent ts).answer.number ≡ 7) → ⊥
strict_refused h = let e : ◌≡◌ {A = ℕ} 0 7 = h [] 0 [] in omega arith

-- ---- layer::whole_feature::add_feature
abbrev point : Head
point = record { kind = 1; has_id = false; id = 0 }

-- the keys behind a tag are not compared with its own
pub first_key_unasked : ((bytes : List ℕ) (a b c d e : ℕ) (ws : List ℕ) → keys_once bytes (a ∷ b ∷ c ∷ d ∷ e ∷ ws) ≡ keys_once bytes ws) → ⊥
first_key_unasked h = let e : ◌≡◌ {A = ℕ} 0 1 = ap bit (h (97 ∷ []) 0 1 5 1 0 (0 ∷ 1 ∷ 5 ∷ 2 ∷ 0 ∷ [])) in omega arith

-- keys are the same where they stand at the same place
pub by_place : ((bytes : List ℕ) (start len kind low high : ℕ) (key : List ℕ) → key_given bytes (start ∷ len ∷ kind ∷ low ∷ high ∷ []) key ≡ eqb (get_or key 0 0) start) → ⊥
by_place h = let e : ◌≡◌ {A = ℕ} 1 0 = ap bit (h (97 ∷ []) 0 1 5 0 0 (97 ∷ [])) in omega arith

-- AGAIN is asked before TURN
pub feature_again_before_turn : ((f : Head) (words ws bytes : List ℕ) (v : Seen) → add_feature f words ws bytes v
    ≡ check (tags_ok (length bytes) ws) Job (check (is_kind f.kind) Kind (check (valid v) State (check (tags_short ws) TextRefusal (check (tags_utf8 (tags_of bytes ws)) Utf8
    (check (takes_keys v.layer.strict bytes ws) Again (check (is_shut v.layer.feature) Turn (check (leb (length words) max_words) Room
    (if_room (feature_put f words (tags_of bytes ws) v)))))))))) → ⊥
unfolding valid
feature_again_before_turn h =
    let e : ◌≡◌ {A = ℕ} 12 23 = ap refusal_of (h point [] (0 ∷ 1 ∷ 5 ∷ 1 ∷ 0 ∷ 0 ∷ 1 ∷ 5 ∷ 2 ∷ 0 ∷ []) (97 ∷ []) strict_begun) in omega arith

-- ROOM is asked before AGAIN
pub feature_room_before_again : ((f : Head) (words ws bytes : List ℕ) (v : Seen) → fits (feature_put f words (tags_of bytes ws) v).layer.used v.room ≡ false
    → refusal_of (add_feature f words ws bytes v) ≡ 7) → ⊥
unfolding valid
feature_room_before_again h =
    let e : ◌≡◌ {A = ℕ} 23 7 = h point [] (0 ∷ 1 ∷ 5 ∷ 1 ∷ 0 ∷ 0 ∷ 1 ∷ 5 ∷ 2 ∷ 0 ∷ []) (97 ∷ [])
    (seen (chosen true (layer_of now None)) (mem (1 ∷ 1 ∷ []) (1 ∷ 2 ∷ 1 ∷ []) (97 ∷ 107 ∷ 118 ∷ []) (1 ∷ 1 ∷ 7 ∷ 0 ∷ 2 ∷ 3 ∷ 9 ∷ 4 ∷ 4 ∷ 0 ∷ 0 ∷ []))) refl
    in omega arith
