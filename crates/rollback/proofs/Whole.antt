-- An accepted whole feature is what the single calls make: opening, its id, each tag and closing are all accepted, and leave the same layer and the same parts.
use Prim.Native.Nat.{ℕ, ◌+◌, ◌%◌, ◌/◌, ◌≤◌}
use mathlib.Core.Path.{◌≡◌, refl, sym, ap, ◌∙◌}
use mathlib.Core.Bool.{Bool, true, false, cond, not}
use mathlib.Core.List.{List, [], ◌∷◌, ◌++◌, append_assoc}
use native.Mathlib.Omega.{arith}
use lib.ListN.{length, take, drop, length-take}
use lib.Dec.{leb, eqb}
use borrow.Author.Tests.{le-leb, leb-true, not-true}
use Rattle.promise.proofs.Joined.{never, cond_both}
use Rattle.promise.specs.Laid.{lay}
use Rattle.promise.proofs.Laying.{lay_behind}
use Rattle.refusal.specs.declared.Refusal.{Refusal}
use Rattle.refusal.specs.declared.Refusal.TheVariants.{Job, Kind, State, Room, Text as TextRefusal, Utf8, Turn, Again}
use Rattle.table.specs.Texts.{inside, short_text, max_bytes, same_text, text_of}
use Rattle.utf8.specs.Utf8.{is_utf8}
use Rattle.table.specs.Values.{value_ok}
use Rattle.words.specs.Geometries.{is_kind, max_words}
use Rattle.layer.specs.declared.Figures.{Figures}
use Rattle.layer.specs.declared.Layer.{Layer}
use Rattle.std.specs.Prelude.{Some, None}
use Rattle.layer.specs.declared.whole_feature.Head.{Head}
use Rattle.layer.specs.Held.{Memory, Seen, Change, holds, check, fits, next}
use Rattle.layer.specs.State.{valid}
use Rattle.layer.specs.Calls.{is_shut, more_words, with_used, with_features, new_record, record_with, Tag, is_value, key_found, value_found, tag_put, last_tags, takes_key}
use Rattle.layer.specs.TagLists.{tag_ok, tags_ok, text_place, short_tag, tags_short, tag_utf8, tags_utf8, tag_of, tags_of, key_given, keys_once, takes_keys}
use Rattle.layer.specs.Whole.{feature_opened, tags_put, feature_put, add_feature}
use Rattle.layer.proofs.Fitting.{both}
use Rattle.layer.proofs.Keeping.{Lengths, Sound, sound, fine, is_shut_lem, tag_sound, opened_sound}
use Rattle.layer.proofs.Growth.{tags_grow, fits_before, same_feature, same_room}
use Rattle.layer.proofs.Filled.{value_given_lem}
use Rattle.layer.proofs.Features.{feature_opened_lem, feature_tagged}
use Rattle.rollback.proofs.Keyed.{has_is, Keyed, tag_keyed, open_six, new_keyed}
use Rattle.tile.specs.Holding.{same_bytes, among}
use Rattle.tile.proofs.Names.{text_bytes, same_turned}
use Rattle.rollback.specs.Runs.{Call, opens, marks, tags, closes, does}
use Rattle.rollback.specs.Features.{tag_call, tag_calls, id_calls, feature_calls, and_then, runs}

-- ---- a change that is accepted has passed its checks
passed : (b : Bool) (r : Refusal) (c : Change) (t : Layer) (h : Memory) → check b r c ≡ holds t h → (b ≡ true) × (c ≡ holds t h)
passed true r c t h e = (refl, e)
passed false r c t h e = absurd (let z : ◌≡◌ {A = ℕ} 0 1 = cc in omega arith)

-- ---- AGAIN: the keys of a list of tags, behind those that the feature has
-- each is another than those before it
abbrev Apart : List ℕ → List (List ℕ) → List ℕ → Type 0
Apart bytes xs [] = Unit {0}
Apart bytes xs (a ∷ []) = Unit {0}
Apart bytes xs (a ∷ b ∷ []) = Unit {0}
Apart bytes xs (a ∷ b ∷ c ∷ []) = Unit {0}
Apart bytes xs (a ∷ b ∷ c ∷ d ∷ []) = Unit {0}
Apart bytes xs (start ∷ len ∷ kind ∷ low ∷ high ∷ ws) = (among (text_of bytes start len) xs ≡ false) × Apart bytes (xs ++ (text_of bytes start len ∷ [])) ws

-- no tag of the list has one of these keys
abbrev NoneOf : List ℕ → List ℕ → List (List ℕ) → Type 0
NoneOf bytes ws [] = Unit {0}
NoneOf bytes ws (x ∷ xs) = (key_given bytes ws x ≡ false) × NoneOf bytes ws xs

none_behind : (bytes ws : List ℕ) (xs : List (List ℕ)) (x : List ℕ) → NoneOf bytes ws xs → key_given bytes ws x ≡ false → NoneOf bytes ws (xs ++ (x ∷ []))
none_behind bytes ws [] x n e = (e, tt)
none_behind bytes ws (y ∷ xs) x n e = (n.0, none_behind bytes ws xs x n.1 e)

either : (a b : Bool) → cond a true b ≡ false → (a ≡ false) × (b ≡ false)
either true b e = never (sym e)
either false b e = (refl, e)

not_either : (a b : Bool) → a ≡ false → b ≡ false → cond a true b ≡ false
not_either a b e f = rw (e, f)

module _ (bytes : List ℕ) (start len kind low high : ℕ) (ws : List ℕ) (h : start + len ≤ length bytes) where
  abbrev own : List ℕ
  own = text_of bytes start len

  others : (xs : List (List ℕ)) → NoneOf bytes (start ∷ len ∷ kind ∷ low ∷ high ∷ ws) xs → (among own xs ≡ false) × NoneOf bytes ws xs
  others [] n = (refl, tt)
  others (x ∷ xs) n =
      let p = either (same_text bytes start len x) (key_given bytes ws x) n.0 in
      let q = others xs n.1 in
      let a : same_bytes x own ≡ false = same_turned x own ∙ sym (text_bytes bytes start len x h) ∙ p.0 in
      (not_either (same_bytes x own) (among own xs) a q.0, (p.1, q.1))

once_apart : (bytes ws : List ℕ) (xs : List (List ℕ)) → tags_ok (length bytes) ws ≡ true → keys_once bytes ws ≡ true → NoneOf bytes ws xs → Apart bytes xs ws
once_apart bytes [] xs e k n = tt
once_apart bytes (a ∷ []) xs e k n = tt
once_apart bytes (a ∷ b ∷ []) xs e k n = tt
once_apart bytes (a ∷ b ∷ c ∷ []) xs e k n = tt
once_apart bytes (a ∷ b ∷ c ∷ d ∷ []) xs e k n = tt
once_apart bytes (start ∷ len ∷ kind ∷ low ∷ high ∷ ws) xs e k n =
    let own = text_of bytes start len in
    let p = cond_both (tag_ok (length bytes) start len kind low high) (tags_ok (length bytes) ws) e in
    let i = leb-true (start + len) (length bytes) (both (inside (length bytes) start len) (value_ok (length bytes) kind low high) p.0).0 in
    let q = cond_both (not (key_given bytes ws own)) (keys_once bytes ws) k in
    let g : key_given bytes ws own ≡ false = not-true (key_given bytes ws own) q.0 in
    let o = others bytes start len kind low high ws i xs n in
    (o.0, once_apart bytes ws (xs ++ (own ∷ [])) p.1 q.1 (none_behind bytes ws xs own o.1 g))

-- in a strict layer alone
abbrev ApartIf : Bool → List ℕ → List (List ℕ) → List ℕ → Type 0
ApartIf strict bytes xs ws = strict ≡ true → Apart bytes xs ws

taken_apart : (strict : Bool) (bytes ws : List ℕ) → tags_ok (length bytes) ws ≡ true → takes_keys strict bytes ws ≡ true → ApartIf strict bytes [] ws
taken_apart strict bytes ws e k s = once_apart bytes ws [] e (rw s at k) tt

takes_apart : (strict : Bool) (v : Seen) (o : Figures) (xs : List (List ℕ)) (key : List ℕ) → Keyed v o xs → (strict ≡ true → among key xs ≡ false) → takes_key strict v.held o.features key ≡ true
takes_apart true v o xs key T n = rw (has_is v.held.keys v.held.texts (last_tags v.held.features o.features) xs key T, n refl)
takes_apart false v o xs key T n = refl

-- ---- tags
one_call : (t : Tag) (b : Bool) (e : is_value t.value ≡ b) (rest : List Call) → b ≡ true → (g : is_value t.value ≡ true) × (tag_call t b e ++ rest ≡ tags t g ∷ rest)
one_call t true e rest h = (e, refl)
one_call t false e rest h = absurd (let z : ◌≡◌ {A = ℕ} 0 1 = cc in omega arith)

short_key : (bytes : List ℕ) (start len : ℕ) → short_text len ≡ true → short_text (length (take len (drop start bytes))) ≡ true
short_key bytes start len h = le-leb (length (take len (drop start bytes))) max_bytes (omega (arith, length-take len (drop start bytes), leb-true len max_bytes h))

module _ (t : Tag) (u : Seen) (o : Figures) (S : Sound u) (f : u.layer.feature ≡ Some o) (k : short_text (length t.key) ≡ true) (x : short_text (length t.text) ≡ true) (y : is_utf8 t.key ≡ true) (z : is_utf8 t.text ≡ true) (a : takes_key u.layer.strict u.held o.features t.key ≡ true) (h : fits (tag_put o t u).layer.used u.room ≡ true) (b : fits u.layer.used u.room ≡ true) where
  tag_does : (g : is_value t.value ≡ true) → does (tags t g) u ≡ holds (tag_put o t u).layer (tag_put o t u).held
  tag_does g = rw ((fine u S b).stands, k, x, y, z, f, a, h)

tags_run : (bytes ws : List ℕ) → tags_ok (length bytes) ws ≡ true → tags_short ws ≡ true → tags_utf8 (tags_of bytes ws) ≡ true → (o : Figures) (u : Seen) → u.layer.feature ≡ Some o → Sound u → (xs : List (List ℕ)) → Keyed u o xs → ApartIf u.layer.strict bytes xs ws → fits (tags_put o (tags_of bytes ws) u).layer.used u.room ≡ true → (rest : List Call) → runs (tag_calls (tags_of bytes ws) ++ rest) u ≡ runs rest (tags_put o (tags_of bytes ws) u)
tags_run bytes [] e s w o u f S xs T A h rest = refl
tags_run bytes (a ∷ []) e s w o u f S xs T A h rest = refl
tags_run bytes (a ∷ b ∷ []) e s w o u f S xs T A h rest = refl
tags_run bytes (a ∷ b ∷ c ∷ []) e s w o u f S xs T A h rest = refl
tags_run bytes (a ∷ b ∷ c ∷ d ∷ []) e s w o u f S xs T A h rest = refl
tags_run bytes (start ∷ len ∷ kind ∷ low ∷ high ∷ ws) e s y o u f S xs T A h rest =
    let t = tag_of bytes start len kind low high in
    let w = tag_put o t u in
    let p = cond_both (tag_ok (length bytes) start len kind low high) (tags_ok (length bytes) ws) e in
    let q = cond_both (short_tag len kind low high) (tags_short ws) s in
    let z = both (short_text len) (short_text (text_place kind low high).len) q.0 in
    let x = cond_both (tag_utf8 t) (tags_utf8 (tags_of bytes ws)) y in
    let well = both (is_utf8 t.key) (is_utf8 t.text) x.0 in
    let g = value_given_lem (length bytes) kind low high (eqb kind 1) refl (both (inside (length bytes) start len) (value_ok (length bytes) kind low high) p.0).1 in
    let r = one_call t (is_value t.value) refl (tag_calls (tags_of bytes ws) ++ rest) g in
    let H : fits w.layer.used u.room ≡ true = fits_before w.layer.used (tags_put o (tags_of bytes ws) w).layer.used u.room (tags_grow o (tags_of bytes ws) w) h in
    let B : fits u.layer.used u.room ≡ true = fits_before u.layer.used w.layer.used u.room (tags_grow o (t ∷ []) u) H in
    let d = tag_does t u o S f (short_key bytes start len z.0) (short_key bytes (text_place kind low high).start (text_place kind low high).len z.1) well.0 well.1 (takes_apart u.layer.strict u o xs t.key T (λ i. (A i).0)) H B r.0 in
    let j : tag_call t (is_value t.value) refl ++ tag_calls (tags_of bytes ws) ++ rest ≡ tags t r.0 ∷ (tag_calls (tags_of bytes ws) ++ rest) =
    append_assoc (tag_call t (is_value t.value) refl) (tag_calls (tags_of bytes ws)) rest ∙ r.1 in
    ap (λ (l : List Call). runs l u) j
    ∙ ap (λ (c : Change). and_then c u (λ v. runs (tag_calls (tags_of bytes ws) ++ rest) v)) d
    ∙ tags_run bytes ws p.1 q.1 x.1 o w f (tag_sound u S o f t r.0 (key_found t u) (value_found t u)) (xs ++ (t.key ∷ [])) (tag_keyed u S o (open_six u S o f) t xs T) (λ i. (A i).1) h rest

-- ---- the id
module _ (f : Head) (words : List ℕ) (v : Seen) (S : Sound v) (k : is_kind f.kind ≡ true) (s : v.layer.feature ≡ None) where
  abbrev begun : Seen
  begun = next (holds (with_used v.layer (more_words v.layer.used (6 + length words)) (Some v.layer.used)) (with_features v.held (v.held.features ++ new_record f.kind words))) v

  sound_begun : Sound begun
  sound_begun = opened_sound f.kind 0 0 words v S (rw k) s

  id_laid : (id : ℕ) → lay (v.layer.used.features + 1) (1 ∷ id % 4294967296 ∷ id / 4294967296 ∷ []) (v.held.features ++ new_record f.kind words) ≡ v.held.features ++ record_with f.kind 1 id words
  id_laid id =
      lay_behind v.held.features (new_record f.kind words) (1 ∷ id % 4294967296 ∷ id / 4294967296 ∷ []) 1 v.layer.used.features S.lengths.features

  id_run : fits begun.layer.used v.room ≡ true → (has : Bool) (id : ℕ) (rest : List Call) → runs (id_calls has id ++ rest) begun ≡ runs rest (feature_opened (record { kind = f.kind; has_id = has; id = id }) words v)
  id_run h true id rest =
      ap (λ (c : Change). and_then c begun (λ w. runs rest w))
      (let d : does (marks (id % 4294967296) (id / 4294967296)) begun ≡ holds begun.layer (with_features begun.held (lay (v.layer.used.features + 1) (1 ∷ id % 4294967296 ∷ id / 4294967296 ∷ []) begun.held.features)) = rw (fine begun sound_begun h).stands in
      d ∙ ap (λ (l : List ℕ). holds begun.layer (with_features v.held l)) (id_laid id))
  id_run h false id rest = refl

-- ---- the whole
module _ (f : Head) (words ws bytes : List ℕ) (v : Seen) (L : valid v ≡ true → Lengths v) (t : Layer) (h : Memory) (e : add_feature f words ws bytes v ≡ holds t h) where
  pub whole_is_calls : runs (feature_calls f words (tags_of bytes ws)) v ≡ holds t h
  whole_is_calls =
      let ts = tags_of bytes ws in
      let o = v.layer.used in
      let W = feature_put f words ts v in
      let a = passed (tags_ok (length bytes) ws) Job _ t h e in
      let b = passed (is_kind f.kind) Kind _ t h a.1 in
      let c = passed (valid v) State _ t h b.1 in
      let d = passed (tags_short ws) TextRefusal _ t h c.1 in
      let y = passed (tags_utf8 (tags_of bytes ws)) Utf8 _ t h d.1 in
      let g = passed (is_shut v.layer.feature) Turn _ t h y.1 in
      let n = passed (takes_keys v.layer.strict bytes ws) Again _ t h g.1 in
      let m = passed (leb (length words) max_words) Room _ t h n.1 in
      let r = passed (fits W.layer.used W.room) Room (holds W.layer W.held) t h m.1 in
      let S = sound v c.0 (L c.0) in
      let s = is_shut_lem v.layer.feature g.0 in
      let u = feature_opened f words v in
      let all = tags_put o ts u in
      let q : W.room ≡ v.room = same_room o ts u in
      let H : fits all.layer.used v.room ≡ true = rw q at r.0 in
      let B : fits (begun f words v S b.0 s).layer.used v.room ≡ true = fits_before u.layer.used all.layer.used v.room (tags_grow o ts u) H in
      let opening : does (opens f.kind words) v ≡ holds (begun f words v S b.0 s).layer (begun f words v S b.0 s).held = rw (b.0, c.0, g.0, m.0, B) in
      let A = feature_tagged f words ws bytes v S a.0 b.0 s in
      let closing : does closes all ≡ holds W.layer W.held = rw ((fine all A r.0).stands, same_feature o ts u) in
      ap (λ (k : Change). and_then k v (λ w. runs (id_calls f.has_id f.id ++ (tag_calls ts ++ (closes ∷ []))) w)) opening
      ∙ id_run f words v S b.0 s B f.has_id f.id (tag_calls ts ++ (closes ∷ []))
      ∙ tags_run bytes ws a.0 d.0 y.0 o u refl (feature_opened_lem f words ws bytes v S a.0 b.0 s) [] (new_keyed f words v S) (taken_apart v.layer.strict bytes ws a.0 n.0) H (closes ∷ [])
      ∙ ap (λ (k : Change). and_then k all (λ w. runs [] w)) closing
      ∙ r.1
