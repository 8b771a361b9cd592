-- The loop over the tags in `put_feature`: what is seen at each turn, with the tags still to come, is what all of them leave.
use Prim.Native.Nat.{ℕ, ◌+◌, ◌-◌, ◌≤◌, ◌<◌, zero-le}
use mathlib.Core.Path.{◌≡◌, refl, sym, ap, subst, ◌∙◌}
use mathlib.Core.Bool.{Bool, true, false}
use mathlib.Core.List.{List, [], ◌∷◌, ◌++◌}
use native.Mathlib.Omega.{arith}
use lib.ListN.{length, get_or, take, drop, drop_of_length-le, length-take}
use lib.Seq.{drop_at, drop-drop}
use lib.Dec.{eqb}
use Rattle.table.specs.Texts.{inside, max_bytes}
use Rattle.table.specs.Values.{value_ok}
use Rattle.layer.specs.declared.tag_list.Place.{Place}
use Rattle.layer.specs.declared.Figures.{Figures}
use Rattle.layer.specs.declared.Layer.{Layer}
use Rattle.layer.specs.Held.{Memory, mem, room_of, fits, Seen, seen, front, onto}
use Rattle.layer.specs.State.{valid}
use Rattle.layer.specs.Calls.{Tag, is_value, key_found, value_found, tag_put}
use Rattle.layer.specs.TagLists.{value_given, text_place, tag_at, tags_of}
use Rattle.layer.specs.Whole.{tags_put}
use Rattle.layer.specs.Lookup.{Index, Current, Kept}
use Rattle.layer.specs.WholeSteps.{place_at, TagThere, Leaves, Long, MayTag, MayFill}
use Rattle.layer.proofs.Fitting.{fit, both}
use Rattle.layer.proofs.Fronts.{held_onto}
use Rattle.layer.proofs.Standing.{valid_fit}
use Rattle.layer.proofs.Keeping.{Sound, sound, fine, tag_sound}
use Rattle.layer.proofs.After.{Sized, length_front, seen_after_lem, seen_lengths}
use Rattle.layer.proofs.Indexing.{kept_same, kept_on}
use Rattle.layer.proofs.Listing.{five, five_left, ok_at_lem, ok_after, short_at_lem, short_after}
use Rattle.layer.proofs.Placing.{tag_there, key_short, text_short}
use Rattle.layer.proofs.Growth.{tags_grow, fits_before}

-- ---- the slices of `put_tag_at` are the tag
module _ (bytes ws : List ℕ) (i : ℕ) (p : Place) (e : p ≡ place_at ws i) where
  abbrev sliced : Tag
  sliced = record { key = take (p.key.start + p.key.len - p.key.start) (drop p.key.start bytes); value = p.value; text = take (p.text.start + p.text.len - p.text.start) (drop p.text.start bytes) }

  pub sliced_may : (s : Layer) (o : Figures) (m : Memory) (x : Index) → MayTag s o (tag_at bytes ws i) m x → MayTag s o sliced m x
  sliced_may s o m x M = subst (λ (t : Tag). MayTag s o t m x) (sym (tag_there bytes ws i p e)) M

  pub sliced_left : (o : Figures) (v : Seen) (r : Layer) (m n : Memory) (x y : Index) → Leaves (tag_put o sliced v) r m n x y → Leaves (tag_put o (tag_at bytes ws i) v) r m n x y
  sliced_left o v r m n x y L = subst (λ (t : Tag). Leaves (tag_put o t v) r m n x y) (tag_there bytes ws i p e) L

-- ---- a tag of the list is one that the tag calls make
pub value_given_lem : (bytes kind low high : ℕ) (t : Bool) → eqb kind 1 ≡ t → value_ok bytes kind low high ≡ true → is_value (value_given kind low high) ≡ true
value_given_lem bytes kind low high true q e = rw q
value_given_lem bytes kind low high false q e = rw (q, q) (rw q at e)

module _ (bytes ws : List ℕ) (i : ℕ) (T : TagThere bytes ws i) where
  pub tag_value : is_value (tag_at bytes ws i).value ≡ true
  tag_value =
      value_given_lem (length bytes) (get_or ws (i + 2) 0) (get_or ws (i + 3) 0) (get_or ws (i + 4) 0) (eqb (get_or ws (i + 2) 0) 1) refl
      (both (inside (length bytes) (get_or ws i 0) (get_or ws (i + 1) 0)) (value_ok (length bytes) (get_or ws (i + 2) 0) (get_or ws (i + 3) 0) (get_or ws (i + 4) 0)) T.ok).1

  pub tag_key_short : length (tag_at bytes ws i).key ≤ max_bytes
  tag_key_short = omega (arith, length-take (get_or ws (i + 1) 0) (drop (get_or ws i 0) bytes), key_short bytes ws i T (place_at ws i) refl)

  pub tag_text_short : length (tag_at bytes ws i).text ≤ max_bytes
  tag_text_short =
      let t = text_place (get_or ws (i + 2) 0) (get_or ws (i + 3) 0) (get_or ws (i + 4) 0) in
      omega (arith, length-take t.len (drop t.start bytes), text_short bytes ws i T (place_at ws i) refl)

-- ---- parts laid over parts
front_front : (p q l : List ℕ) → length p ≤ length q → front q (front p l) ≡ front q l
front_front p q l h =
    let n = length q - length p in
    let a : length p + n ≡ length q = omega arith in
    let b : drop n (drop (length p) (p ++ drop (length p) l)) ≡ drop n (drop (length p) l) = ap (drop n) (drop_at p (drop (length p) l) (length p) refl) in
    let c : drop (length p + n) (p ++ drop (length p) l) ≡ drop (length p + n) l = sym (drop-drop n (length p) (p ++ drop (length p) l)) ∙ b ∙ drop-drop n (length p) l in
    ap (λ (x : List ℕ). q ++ x) (rw a at c)

pub onto_onto : (h k m : Memory) → length h.keys ≤ length k.keys → length h.values ≤ length k.values → length h.texts ≤ length k.texts → length h.features ≤ length k.features → onto k (onto h m) ≡ onto k m
onto_onto h k m a b c d =
    rw (front_front h.keys k.keys m.keys a, front_front h.values k.values m.values b, front_front h.texts k.texts m.texts c, front_front h.features k.features m.features d)

-- what is seen after a step that leaves w behind
module _ (w : Seen) (r : Layer) (m n : Memory) (x y : Index) (L : Leaves w r m n x y) (S : Sound w) (h : fits w.layer.used w.room ≡ true) (q : w.room ≡ room_of (length m.keys) (length m.values) (length m.texts) (length m.features)) where
  pub left_seen : seen r n ≡ w
  left_seen =
      let Z : Sized (record { layer = w.layer; held = w.held; room = room_of (length m.keys) (length m.values) (length m.texts) (length m.features) }) =
      record { lengths = record { keys = S.lengths.keys; values = S.lengths.values; texts = S.lengths.texts; features = S.lengths.features }; room = rw q at h } in
      ap (λ (t : Layer). seen t n) L.layer ∙ ap (seen w.layer) L.memory ∙ seen_after_lem w.layer w.held m Z
      ∙ ap (λ (u : Figures). record { layer = w.layer; held = w.held; room = u }) (sym q)

  pub left_long : Long m n
  left_long =
      let F = fit w.layer.used (length m.keys) (length m.values) (length m.texts) (length m.features) (rw q at h) in
      let N = S.lengths in
      rw L.memory
      (record {
        keys = length_front w.held.keys m.keys (omega (arith, N.keys, F.in_keys));
        values = length_front w.held.values m.values (omega (arith, N.values, F.in_values));
        texts = length_front w.held.texts m.texts (omega (arith, N.texts, F.in_texts));
        features = length_front w.held.features m.features (omega (arith, N.features, F.in_features));
      })

  pub left_valid : valid (seen r n) ≡ true
  left_valid = ap valid left_seen ∙ (fine w S h).stands

-- ---- the loop
pub record Inv (s : Layer) (o : Figures) (ws bytes : List ℕ) (m : Memory) (x : Index) (i : ℕ) (t : Layer) (n : Memory) (y : Index) : Type 0 where
  pub at : i ≤ length ws
  pub may : MayFill t o (drop i ws) bytes n y
  pub rest : tags_put o (tags_of bytes (drop i ws)) (seen t n) ≡ tags_put o (tags_of bytes ws) (seen s m)
  pub memory : n ≡ onto (seen t n).held m
  pub kept : Kept (seen s m).room x y
  pub room : (seen t n).room ≡ (seen s m).room
  pub long : Long m n

module _ (s : Layer) (o : Figures) (ws bytes ks vs ts fs : List ℕ) (x : Index) (M : MayFill s o ws bytes (mem ks vs ts fs) x) where
  pub begin : Inv s o ws bytes (mem ks vs ts fs) x 0 s (mem ks vs ts fs) x
  begin =
      record {
        at = zero-le;
        may = M;
        rest = refl;
        memory = sym (held_onto s.used ks vs ts fs (valid_fit s ks vs ts fs M.stands));
        kept = kept_same (seen s (mem ks vs ts fs)).room x;
        room = refl;
        long = record { keys = refl; values = refl; texts = refl; features = refl };
      }

module _ (s : Layer) (o : Figures) (ws bytes : List ℕ) (m : Memory) (x : Index) (i : ℕ) (t : Layer) (n : Memory) (y : Index) (I : Inv s o ws bytes m x i t n y) where
  pub ends : length ws ≤ i → Leaves (tags_put o (tags_of bytes ws) (seen s m)) t m n x y
  ends h =
      let e : seen t n ≡ tags_put o (tags_of bytes ws) (seen s m) = rw (drop_of_length-le ws {i = i} h) at I.rest in
      subst (λ (w : Seen). Leaves w t m n x y) e
      (record { layer = refl; memory = I.memory; kept = rw I.room I.kept; current = I.may.current })

  module _ (h : i < length ws) where
    pub there : TagThere bytes ws i
    there =
        let a = five_left (length bytes) ws i I.may.list h in
        record { words = a; ok = ok_at_lem (length bytes) ws i I.may.list h; short = short_at_lem ws i I.may.short a }

    abbrev tag : Tag
    tag = tag_at bytes ws i

    abbrev after : Seen
    after = tag_put o tag (seen t n)

    step : tags_put o (tags_of bytes (drop i ws)) (seen t n) ≡ tags_put o (tags_of bytes (drop (i + 5) ws)) after
    step = ap (λ (l : List ℕ). tags_put o (tags_of bytes l) (seen t n)) (five ws i there.words)

    all_room : fits (tags_put o (tags_of bytes (drop (i + 5) ws)) after).layer.used (seen t n).room ≡ true
    all_room = ap (λ (w : Seen). fits w.layer.used (seen t n).room) (sym step) ∙ I.may.room

    tag_room : fits after.layer.used (seen t n).room ≡ true
    tag_room = fits_before after.layer.used (tags_put o (tags_of bytes (drop (i + 5) ws)) after).layer.used (seen t n).room (tags_grow o (tags_of bytes (drop (i + 5) ws)) after) all_room

    pub may_tag : MayTag t o tag n y
    may_tag =
        record {
          stands = I.may.stands;
          since = I.may.since;
          room = tag_room;
          small_key = tag_key_short bytes ws i there;
          small_text = tag_text_short bytes ws i there;
          current = I.may.current;
        }

    before_sound : Sound (seen t n)
    before_sound = sound (seen t n) I.may.stands (seen_lengths t n I.may.stands)

    after_sound : Sound after
    after_sound = tag_sound (seen t n) before_sound o I.may.since tag (tag_value bytes ws i there) (key_found tag (seen t n)) (value_found tag (seen t n))

    module _ (r : Layer) (l : Memory) (z : Index) (L : Leaves after r n l y z) where
      now : seen r l ≡ after
      now = left_seen after r n l y z L after_sound tag_room refl

      laid : l ≡ onto (seen r l).held m
      laid =
          let B = before_sound.lengths in
          let A = after_sound.lengths in
          let G = tags_grow o (tag ∷ []) (seen t n) in
          let a : l ≡ onto after.held n = L.memory in
          let b : onto after.held n ≡ onto after.held (onto (seen t n).held m) = ap (onto after.held) I.memory in
          let c : onto after.held (onto (seen t n).held m) ≡ onto after.held m =
          onto_onto (seen t n).held after.held m (omega (arith, B.keys, A.keys, G.keys)) (omega (arith, B.values, A.values, G.values)) (omega (arith, B.texts, A.texts, G.texts)) (omega (arith, B.features, A.features, G.features)) in
          a ∙ b ∙ c ∙ ap (λ (w : Seen). onto w.held m) (sym now)

      pub turn : Inv s o ws bytes m x (i + 5) r l z
      turn =
          record {
            at = there.words;
            may = record {
              stands = left_valid after r n l y z L after_sound tag_room refl;
              since = ap (λ (w : Seen). w.layer.feature) now ∙ I.may.since;
              list = ok_after (length bytes) ws i I.may.list h;
              short = short_after ws i I.may.short there.words;
              room = ap (λ (w : Seen). fits (tags_put o (tags_of bytes (drop (i + 5) ws)) w).layer.used w.room) now ∙ all_room;
              current = subst (λ (w : Seen). Current w z) (sym now) L.current;
            };
            rest = ap (tags_put o (tags_of bytes (drop (i + 5) ws))) now ∙ sym step ∙ I.rest;
            memory = laid;
            kept = kept_on (seen s m).room x y z I.kept (rw I.room at L.kept);
            room = ap (λ (w : Seen). w.room) now ∙ I.room;
            long =
                (let B = I.long in
                let A = left_long after r n l y z L after_sound tag_room refl in
                record { keys = A.keys ∙ B.keys; values = A.values ∙ B.values; texts = A.texts ∙ B.texts; features = A.features ∙ B.features });
          }
