-- Crates `utf8` and `layer`: texts that are not UTF-8 taken, texts that are refused, and UTF8 asked out of its turn.
use Rattle.std.specs.Prelude.{ℕ, ◌≡◌, refl, true, false, cond, List, [], ◌∷◌, leb, length, replicate, None}
use Rattle.std.proofs.Common.{ap, arith}
use Rattle.promise.specs.Answers.{kept}
use Rattle.promise.specs.Laid.{lay}
use Rattle.refusal.specs.declared.Refusal.TheVariants.{Job, Kind, State, Room, Text as TextRefusal, Utf8, Turn, Again}
use Rattle.refusal.specs.Said.{accepted, refused}
use Rattle.table.specs.Texts.{short_text}
use Rattle.utf8.specs.Utf8.{within, tail, is_utf8}
use Rattle.words.specs.Geometries.{is_kind, max_words}
use Rattle.layer.specs.declared.whole_feature.Head.{Head}
use Rattle.layer.specs.Held.{mem, Seen, seen, check, when_open, smaller, max_texts}
use Rattle.layer.specs.State.{valid}
use Rattle.layer.specs.Calls.{is_shut, Tag, tagged_once, add_tag, tag_string, tag_bits, new_layer, created, if_room}
use Rattle.layer.specs.TagLists.{tags_ok, tags_short, tag_utf8, tags_utf8, tags_of, takes_keys}
use Rattle.layer.specs.Whole.{feature_put, add_feature}
use Rattle.ruled_out.specs.Inputs.{bit, refusal_of, figures, layer_of, whole, begun}

-- ---- utf8::is_utf8
-- surrogates are taken: any two bytes of the common range behind ED
pub surrogates_taken : ((b c : ℕ) (bs : List ℕ) → within tail b ≡ true → within tail c ≡ true → is_utf8 (0xED ∷ b ∷ c ∷ bs) ≡ is_utf8 bs) → ⊥
surrogates_taken h = let e : ◌≡◌ {A = ℕ} 0 1 = ap bit (h 0xA0 0x80 [] refl refl) in omega arith

-- the longer form of a slash is taken: C0 begins a sequence as C2 does
pub longer_slash_taken : ((b : ℕ) (bs : List ℕ) → is_utf8 (0xC0 ∷ b ∷ bs) ≡ is_utf8 (0xC2 ∷ b ∷ bs)) → ⊥
longer_slash_taken h = let e : ◌≡◌ {A = ℕ} 0 1 = ap bit (h 0xAF []) in omega arith

-- what is above U+10FFFF is taken: any three bytes of the common range behind F4
pub above_the_last_taken : ((b c d : ℕ) (bs : List ℕ) → within tail b ≡ true → within tail c ≡ true → within tail d ≡ true
    → is_utf8 (0xF4 ∷ b ∷ c ∷ d ∷ bs) ≡ is_utf8 bs) → ⊥
above_the_last_taken h = let e : ◌≡◌ {A = ℕ} 0 1 = ap bit (h 0x90 0x80 0x80 [] refl refl refl) in omega arith

-- a sequence that is cut is taken
pub cut_taken : ((a b : ℕ) → is_utf8 (a ∷ b ∷ 0x80 ∷ []) ≡ is_utf8 (a ∷ b ∷ [])) → ⊥
cut_taken h = let e : ◌≡◌ {A = ℕ} 1 0 = ap bit (h 0xE2 0x82) in omega arith

-- a byte of Latin-1 is taken
pub latin_1_taken : ((b : ℕ) → within tail b ≡ false → is_utf8 (b ∷ []) ≡ true) → ⊥
latin_1_taken h = let e : ◌≡◌ {A = ℕ} 0 1 = ap bit (h 0xDF refl) in omega arith

-- U+0000 is refused, or a mark of the byte order, or what is no character
pub nought_refused : ((bs : List ℕ) → is_utf8 (0 ∷ bs) ≡ false) → ⊥
nought_refused h = let e : ◌≡◌ {A = ℕ} 1 0 = ap bit (h []) in omega arith

pub mark_refused : ((bs : List ℕ) → is_utf8 (0xEF ∷ 0xBB ∷ 0xBF ∷ bs) ≡ false) → ⊥
mark_refused h = let e : ◌≡◌ {A = ℕ} 1 0 = ap bit (h []) in omega arith

pub no_character_refused : ((bs : List ℕ) → is_utf8 (0xEF ∷ 0xBF ∷ 0xBF ∷ bs) ≡ false) → ⊥
no_character_refused h = let e : ◌≡◌ {A = ℕ} 1 0 = ap bit (h []) in omega arith

-- ---- the tag calls
-- UTF8 is asked before TEXT
pub utf8_before_text : ((t : Tag) (v : Seen) → add_tag t v ≡ check (valid v) State (check (is_utf8 t.key) Utf8 (check (is_utf8 t.text) Utf8
    (check (short_text (length t.key)) TextRefusal (check (short_text (length t.text)) TextRefusal
    (when_open v.layer.feature (λ o. tagged_once t v o))))))) → ⊥
unfolding valid
utf8_before_text h = let e : ◌≡◌ {A = ℕ} 11 22 = ap refusal_of (h (tag_string (0xFF ∷ []) (replicate 1025 0)) whole) in omega arith

-- UTF8 is asked after TURN
pub utf8_after_turn : ((t : Tag) (v : Seen) → add_tag t v ≡ check (valid v) State (check (short_text (length t.key)) TextRefusal
    (check (short_text (length t.text)) TextRefusal (when_open v.layer.feature
    (λ o. check (is_utf8 t.key) Utf8 (check (is_utf8 t.text) Utf8 (tagged_once t v o))))))) → ⊥
unfolding valid
utf8_after_turn h = let e : ◌≡◌ {A = ℕ} 22 12 = ap refusal_of (h (tag_string (0xFF ∷ []) []) whole) in omega arith

-- a key that is not UTF-8 is taken where the value is no text
pub key_taken : ((t : Tag) (v : Seen) → add_tag t v ≡ check (valid v) State (check (short_text (length t.key)) TextRefusal
    (check (short_text (length t.text)) TextRefusal (check (is_utf8 t.text) Utf8 (when_open v.layer.feature (λ o. tagged_once t v o)))))) → ⊥
unfolding valid
key_taken h = let e : ◌≡◌ {A = ℕ} 22 12 = ap refusal_of (h (tag_bits 5 (0xFF ∷ []) 5) whole) in omega arith

-- STATE looks into the texts that a layer holds
pub stored_texts_asked : ((v : Seen) → is_utf8 v.held.texts ≡ false → valid v ≡ false) → ⊥
unfolding valid
stored_texts_asked h = let e : ◌≡◌ {A = ℕ} 1 0 = ap bit (h (seen (layer_of (figures 0 0 1 0) None) (mem [] [] (0xDF ∷ []) [])) refl) in omega arith

-- ---- Layer::new
-- UTF8 is asked before TEXT
pub name_utf8_before_text : ((name ts : List ℕ) (extent : ℕ) → created name extent ts ≡ cond (is_utf8 name) (cond (short_text (length name))
    (cond (leb (length name) (smaller (length ts) max_texts)) (record { answer = accepted (new_layer name extent ∷ []); memory = lay 0 name ts })
    (kept (refused Room []) ts)) (kept (refused TextRefusal []) ts)) (kept (refused Utf8 []) ts)) → ⊥
name_utf8_before_text h = let e : ◌≡◌ {A = ℕ} 11 22 = ap (λ w. w.answer.number) (h (replicate 1025 0xFF) [] 0) in omega arith

-- ROOM is asked before UTF8
pub name_room_before_utf8 : ((name ts : List ℕ) (extent : ℕ) → leb (length name) (smaller (length ts) max_texts) ≡ false
    → (created name extent ts).answer.number ≡ 7) → ⊥
name_room_before_utf8 h = let e : ◌≡◌ {A = ℕ} 22 7 = h (0xFF ∷ []) [] 0 refl in omega arith

-- ---- layer::whole_feature::add_feature
abbrev point : Head
point = record { kind = 1; has_id = false; id = 0 }

-- UTF8 is asked before TEXT
pub feature_utf8_before_text : ((f : Head) (words ws bytes : List ℕ) (v : Seen) → add_feature f words ws bytes v
    ≡ check (tags_ok (length bytes) ws) Job (check (is_kind f.kind) Kind (check (valid v) State (check (tags_utf8 (tags_of bytes ws)) Utf8
    (check (tags_short ws) TextRefusal (check (is_shut v.layer.feature) Turn (check (takes_keys v.layer.strict bytes ws) Again (check (leb (length words) max_words) Room
    (if_room (feature_put f words (tags_of bytes ws) v)))))))))) → ⊥
unfolding valid
feature_utf8_before_text h =
    let e : ◌≡◌ {A = ℕ} 11 22 = ap refusal_of (h point [] (0 ∷ 1 ∷ 1 ∷ 0 ∷ 1025 ∷ []) (replicate 1025 0xFF) whole) in omega arith

-- UTF8 is asked after TURN
pub feature_utf8_after_turn : ((f : Head) (words ws bytes : List ℕ) (v : Seen) → add_feature f words ws bytes v
    ≡ check (tags_ok (length bytes) ws) Job (check (is_kind f.kind) Kind (check (valid v) State (check (tags_short ws) TextRefusal
    (check (is_shut v.layer.feature) Turn (check (tags_utf8 (tags_of bytes ws)) Utf8 (check (takes_keys v.layer.strict bytes ws) Again (check (leb (length words) max_words) Room
    (if_room (feature_put f words (tags_of bytes ws) v)))))))))) → ⊥
unfolding valid
feature_utf8_after_turn h = let e : ◌≡◌ {A = ℕ} 22 12 = ap refusal_of (h point [] (0 ∷ 1 ∷ 5 ∷ 1 ∷ 0 ∷ []) (0xFF ∷ []) begun) in omega arith

-- of several tags the first alone is asked
pub first_tag_asked : ((t : Tag) (ts : List Tag) → tags_utf8 (t ∷ ts) ≡ tag_utf8 t) → ⊥
first_tag_asked h = let e : ◌≡◌ {A = ℕ} 0 1 = ap bit (h (tag_bits 5 [] 0) (tag_bits 5 (0xFF ∷ []) 0 ∷ [])) in omega arith
