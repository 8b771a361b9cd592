-- A drawing stands in a layer's lists, and one law a call: after an accepted call the drawing after it stands there.
use Prim.Native.Nat.{ℕ, ◌+◌, ◌%◌, ◌/◌, ◌≤◌}
use mathlib.Core.Path.{◌≡◌, refl, sym, ap, ◌∙◌, subst}
use mathlib.Core.Bool.{true}
use mathlib.Core.List.{List, [], ◌∷◌, ◌++◌, append_assoc, append-nil}
use mathlib.Core.Option.{Option, none, some}
use native.Mathlib.Omega.{arith}
use lib.ListN.{length, length-append}
use lib.Dec.{leb}
use Rattle.promise.specs.Laid.{lay}
use Rattle.refusal.specs.declared.Refusal.TheVariants.{Kind, State, Room, Turn}
use Rattle.table.specs.Keys.{find_key}
use Rattle.words.specs.Geometries.{is_kind, max_words}
use Rattle.layer.specs.declared.Figures.{Figures}
use Rattle.std.specs.Prelude.{Option as OptionOf, Some, None}
use Rattle.layer.specs.Held.{Memory, Seen, Change, holds, fits, held_by, next}
use Rattle.layer.specs.State.{valid}
use Rattle.layer.specs.Calls.{Tag as Stored, is_shut, more_words, with_used, with_features, record_with, key_found, value_found, tag_put}
use Rattle.layer.proofs.Standing.{parts as valid-parts}
use Rattle.layer.proofs.Keeping.{Lengths, All, sound, by_check, by_open, is_shut_lem, opening_in}
use Rattle.layer.proofs.Checked.{by_tag}
use Rattle.layer.proofs.Growth.{fits_before}
use Rattle.tile.specs.Holding.{same_bytes}
use Rattle.given.specs.Given.{Content, Tag, Feature, Drawing, Call, opens, identifies, tags, closes, abandons, same, among, place_of, all_tags, keys_of, values_of, drawn, identified, tagged, after}
use Rattle.given.specs.Messages.{each, tag_indices}
use Rattle.given.specs.Asked.{tag_of, asks, Fine, FineCall}
use Rattle.given.specs.Layout.{mark_of, number_of, record_of, HeldAs, OpenAs, Stands}
use Rattle.given.proofs.FirstUse.{Met, met_left, met_right, all_met, keys_one_more, values_one_more}
use Rattle.given.proofs.Entries.{found_at, keys_found}
use Rattle.given.proofs.Values.{values_found}
use Rattle.given.proofs.Records.{each_last, records_long}
use Rattle.given.proofs.Holding.{key_words_lem, value_words_lem, record_held, record_cut, id_held, tag_held, tag_parts, cut_marked, cut_tagged}

-- ---- by whether a feature is open
module _ (u : Figures) (n : ℕ) (h : Memory) (name : List ℕ) (fs : List Feature) where
  pub none_open : (x : OptionOf Figures) (y : Option Feature) → x ≡ None → OpenAs u n h name fs x y → (y ≡ none) × HeldAs u n h name fs
  none_open None none e P = (refl, P)
  none_open None (some f) e P = absurd P
  none_open (Some o) y e P = absurd (let z : ◌≡◌ {A = ℕ} 0 1 = cc in omega arith)

  pub one_open : (o : Figures) (x : OptionOf Figures) (y : Option Feature) → x ≡ Some o → OpenAs u n h name fs x y → (f : Feature) × (y ≡ some f) × HeldAs u n h name (fs ++ (f ∷ [])) × HeldAs o n (held_by o h) name fs
  one_open o None y e P = absurd (let z : ◌≡◌ {A = ℕ} 0 1 = cc in omega arith)
  one_open o (Some p) none e P = absurd P
  one_open o (Some p) (some f) e P = let q : p ≡ o = cc in (f, refl, P.0, subst (λ (r : Figures). HeldAs r n (held_by r h) name fs) q P.1)

-- ---- the tags of features
pub tags_last : (fs : List Feature) (f : Feature) → all_tags (fs ++ (f ∷ [])) ≡ all_tags fs ++ f.tags
tags_last [] f = append-nil f.tags
tags_last (g ∷ fs) f = rw (tags_last fs f) (sym (append_assoc g.tags (all_tags fs) f.tags))

-- ---- opening
module _ (v : Seen) (d : Drawing) (S : Stands v d) (s : v.layer.feature ≡ None) (kind : ℕ) (id : Option ℕ) (words : List ℕ) where
  abbrev opening : Feature
  opening = record { kind = kind; id = id; geometry = words; tags = [] }

  abbrev pub begun : Seen
  begun = next (holds (with_used v.layer (more_words v.layer.used (6 + length words)) (Some v.layer.used)) (with_features v.held (v.held.features ++ record_with kind (mark_of id) (number_of id) words))) v

  pub opened_stands : Stands begun (drawn d d.features (some opening))
  opened_stands =
      let u = v.layer.used in
      let n = v.layer.name in
      let fs = d.features in
      let H = (none_open u n v.held d.name fs v.layer.feature d.pending s S.parts).1 in
      let t : all_tags (fs ++ (opening ∷ [])) ≡ all_tags fs = tags_last fs opening ∙ append-nil (all_tags fs) in
      record {
        extent_is = S.extent_is;
        parts = (rw t (record_held u n v.held d.name (keys_of fs) (values_of fs) fs H kind id words), rw (record_cut u n v.held d.name (keys_of fs) (values_of fs) fs H kind id words) H);
      }

-- ---- with a feature open
module _ (v : Seen) (d : Drawing) (S : Stands v d) (o : Figures) (s : v.layer.feature ≡ Some o) where
  abbrev pub there : (f : Feature) × (d.pending ≡ some f) × HeldAs v.layer.used v.layer.name v.held d.name (d.features ++ (f ∷ [])) × HeldAs o v.layer.name (held_by o v.held) d.name d.features
  there = one_open v.layer.used v.layer.name v.held d.name d.features o v.layer.feature d.pending s S.parts

  -- the open record starts behind those completed
  module _ (f : Feature) (A : HeldAs v.layer.used v.layer.name v.held d.name (d.features ++ (f ∷ []))) (B : HeldAs o v.layer.name (held_by o v.held) d.name d.features) where
    abbrev pub keys : List (List ℕ)
    keys = keys_of (d.features ++ (f ∷ []))

    abbrev pub values : List Content
    values = values_of (d.features ++ (f ∷ []))

    pub starts : o.features ≡ length (each (record_of keys values) d.features)
    starts = sym B.word_count ∙ ap length B.records_are ∙ records_long (keys_of d.features) keys (values_of d.features) values d.features

    four : o.features + 1 + 3 ≤ length v.held.features
    four =
        let before = each (record_of keys values) d.features in
        omega (arith, starts, ap length (A.records_are ∙ each_last (record_of keys values) d.features f), length-append before (record_of keys values f), length-append f.geometry (tag_indices keys values f.tags))

    pub met : Met keys values (all_tags d.features ++ f.tags)
    met = rw (← tags_last d.features f) (all_met [] [] (all_tags (d.features ++ (f ∷ []))))

    id_parts : (n : ℕ) → OpenAs v.layer.used v.layer.name (with_features v.held (lay (o.features + 1) (1 ∷ n % 4294967296 ∷ n / 4294967296 ∷ []) v.held.features)) d.name d.features (Some o) (some (identified n f))
    id_parts n =
        let t : all_tags (d.features ++ (identified n f ∷ [])) ≡ all_tags (d.features ++ (f ∷ [])) = tags_last d.features (identified n f) ∙ sym (tags_last d.features f) in (
          rw t (id_held v.layer.used v.layer.name v.held d.name keys values d.features f A o.features starts n),
          rw (cut_marked o v.layer.name v.held d.name d.features B (1 ∷ n % 4294967296 ∷ n / 4294967296 ∷ []) four) B,
        )

    tag_parted : (key : List ℕ) (c : Content) → Fine c → OpenAs (tag_put o (tag_of key c) v).layer.used v.layer.name (tag_put o (tag_of key c) v).held d.name d.features (Some o) (some (tagged (record { key = key; value = c }) f))
    tag_parted key c g =
        let u = v.layer.used in
        let n = v.layer.name in
        let fs = d.features in
        let t : Tag = record { key = key; value = c } in
        let k : key_found (tag_of key c) v ≡ found_at 0 (among same_bytes key keys) (place_of same_bytes key keys) =
        ap (λ (x : Stored). find_key 0 v.held.keys v.held.texts x.key) (tag_parts key c) ∙ keys_found v.held.texts v.held.keys keys A.keys_stand 0 key in
        let w : value_found (tag_of key c) v ≡ found_at 0 (among same c values) (place_of same c values) =
        values_found v.held.texts v.held.values values A.values_stand 0 key c g in
        let a : all_tags (fs ++ (tagged t f ∷ [])) ≡ all_tags (fs ++ (f ∷ [])) ++ (t ∷ []) =
        tags_last fs (tagged t f) ∙ sym (append_assoc (all_tags fs) f.tags (t ∷ [])) ∙ ap (λ (l : List Tag). l ++ (t ∷ [])) (sym (tags_last fs f)) in
        let H = tag_held u n v.held d.name keys values fs f A o.features starts (met_left keys values (all_tags fs) f.tags met) (met_right keys values (all_tags fs) f.tags met) key c g o refl in (
          rw (k, w, a, keys_one_more (all_tags (fs ++ (f ∷ []))) t, values_one_more (all_tags (fs ++ (f ∷ []))) t) H,
          rw (cut_tagged o n v.held d.name fs B u (tag_of key c) (key_found (tag_of key c) v) (value_found (tag_of key c) v)) B,
        )

  pub id_stands : (n : ℕ) → Stands (next (holds v.layer (with_features v.held (lay (o.features + 1) (1 ∷ n % 4294967296 ∷ n / 4294967296 ∷ []) v.held.features))) v) (after (identifies n) d)
  id_stands n = let (f, p, A, B) = there in record { extent_is = S.extent_is; parts = rw (s, p) (id_parts f A B n) }

  pub tag_stands : (key : List ℕ) (c : Content) → Fine c → Stands (tag_put o (tag_of key c) v) (after (tags key c) d)
  tag_stands key c g = let (f, p, A, B) = there in record { extent_is = S.extent_is; parts = rw (s, p) (tag_parted f A B key c g) }

  pub closed_stands : Stands (next (holds (with_used v.layer v.layer.used None) v.held) v) (after closes d)
  closed_stands = let (f, p, A, B) = there in record { extent_is = S.extent_is; parts = rw p A }

  pub abandoned_stands : Stands (next (holds (with_used v.layer o None) (held_by o v.held)) v) (after abandons d)
  abandoned_stands = let (f, p, A, B) = there in record { extent_is = S.extent_is; parts = B }

-- ---- parts as long as the figures say
pub stands_lengths : (v : Seen) (d : Drawing) → Stands v d → Lengths v
stands_lengths v d S = by v.layer.feature d.pending S.parts
  where
    from : (fs : List Feature) → HeldAs v.layer.used v.layer.name v.held d.name fs → Lengths v
    from fs H =
        record {
          keys = key_words_lem v.layer.used v.layer.name v.held d.name (keys_of fs) (values_of fs) fs H;
          values = value_words_lem v.layer.used v.layer.name v.held d.name (keys_of fs) (values_of fs) fs H;
          texts = H.text_count;
          features = H.word_count;
        }

    by : (x : OptionOf Figures) (y : Option Feature) → OpenAs v.layer.used v.layer.name v.held d.name d.features x y → Lengths v
    by None none P = from d.features P
    by None (some f) P = absurd P
    by (Some o) none P = absurd P
    by (Some o) (some f) P = from (d.features ++ (f ∷ [])) P.0

-- ---- one law a call: where it is accepted, the drawing after it stands, within the room
pub record Stays (w : Seen) (d : Drawing) : Type 0 where
  pub stands : Stands w d
  pub room : fits w.layer.used w.room ≡ true

abbrev pub Kept : Drawing → Seen → Change → Type 0
Kept d v x = All (λ w. Stays w d) x v

module _ (v : Seen) (d : Drawing) (S : Stands v d) where
  -- figures at opening fit where the present ones do
  cut_room : (o : Figures) → v.layer.feature ≡ Some o → valid v ≡ true → fits o v.room ≡ true
  cut_room o f e = fits_before o v.layer.used v.room (opening_in v (sound v e (stands_lengths v d S)) o f) (valid-parts v e).room

  pub call_stands : (c : Call) → FineCall c → Kept (after c d) v (asks c v)
  call_stands (opens kind words) g =
      let P = Kept (after (opens kind words) d) v in
      by_check P (is_kind kind) Kind _ tt (λ k.
      by_check P (valid v) State _ tt (λ e.
      by_check P (is_shut v.layer.feature) Turn _ tt (λ f.
      by_check P (leb (length words) max_words) Room _ tt (λ m.
      by_check P (fits (more_words v.layer.used (6 + length words)) v.room) Room _ tt (λ h.
      record { stands = opened_stands v d S (is_shut_lem v.layer.feature f) kind none words; room = h })))))
  call_stands (identifies n) g =
      let P = Kept (after (identifies n) d) v in
      by_check P (valid v) State _ tt (λ e.
      by_open P v.layer.feature _ tt (λ o f. record { stands = id_stands v d S o f n; room = (valid-parts v e).room }))
  call_stands (tags key c) g =
      let P = Kept (after (tags key c) d) v in
      by_tag P (tag_of key c) v (λ q n. tt) (λ e u o f a h. record { stands = tag_stands v d S o f key c g; room = h })
  call_stands closes g =
      let P = Kept (after closes d) v in
      by_check P (valid v) State _ tt (λ e.
      by_open P v.layer.feature _ tt (λ o f. record { stands = closed_stands v d S o f; room = (valid-parts v e).room }))
  call_stands abandons g =
      let P = Kept (after abandons d) v in
      by_check P (valid v) State _ tt (λ e.
      by_open P v.layer.feature _ tt (λ o f. record { stands = abandoned_stands v d S o f; room = cut_room o f e }))
