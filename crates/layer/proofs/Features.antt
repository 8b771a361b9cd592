-- What `put_feature` needs and leaves behind: the record is laid, the tags are put, and the feature is shut.
use Prim.Native.Nat.{ℕ, ◌+◌, ◌*◌, ◌≤◌}
use mathlib.Core.Path.{◌≡◌, refl, sym, ap, subst, ◌∙◌}
use mathlib.Core.Bool.{Bool, true, false, cond}
use mathlib.Core.List.{List, [], ◌∷◌}
use native.Mathlib.Omega.{arith}
use lib.ListN.{length}
use lib.Dec.{eqb}
use Rattle.promise.proofs.Joined.{cond_both}
use Rattle.promise.specs.Laid.{lay}
use Rattle.table.specs.Texts.{inside}
use Rattle.table.specs.Values.{value_ok}
use Rattle.words.specs.Geometries.{is_kind, max_words}
use Rattle.records.specs.Records.{head_ok}
use Rattle.layer.specs.declared.Figures.{Figures}
use Rattle.layer.specs.declared.Layer.{Layer}
use Rattle.std.specs.Prelude.{Some, None}
use Rattle.layer.specs.declared.whole_feature.Head.{Head}
use Rattle.layer.specs.Held.{Memory, mem, fits, Seen, seen, onto}
use Rattle.layer.specs.Calls.{more_words, with_used, record_with, Tag, key_found, value_found, tag_put}
use Rattle.layer.specs.TagLists.{tag_ok, tags_ok, tag_of, tags_of}
use Rattle.layer.specs.Whole.{mark_of, id_of, feature_opened, tags_put, feature_put}
use Rattle.layer.specs.Lookup.{Index, Current}
use Rattle.layer.specs.WholeSteps.{Leaves, MayFill, MayPut}
use Rattle.layer.proofs.Fitting.{Fit, fit, both}
use Rattle.layer.proofs.Fronts.{front_take, front_run}
use Rattle.layer.proofs.Standing.{valid_fit}
use Rattle.layer.proofs.Keeping.{Sound, sound, opened_sound, tag_sound, closed_sound}
use Rattle.layer.proofs.After.{seen_lengths}
use Rattle.layer.proofs.Indexing.{kept_same}
use Rattle.layer.proofs.Growth.{tags_grow, fits_before, same_room, same_feature}
use Rattle.layer.proofs.Filled.{value_given_lem, onto_onto, left_seen, left_valid}

-- the tags of a list keep the rules of STATE
pub tags_sound : (bytes ws : List ℕ) → tags_ok (length bytes) ws ≡ true → (o : Figures) (v : Seen) → v.layer.feature ≡ Some o → Sound v → Sound (tags_put o (tags_of bytes ws) v)
tags_sound bytes [] e o v f S = S
tags_sound bytes (a ∷ []) e o v f S = S
tags_sound bytes (a ∷ b ∷ []) e o v f S = S
tags_sound bytes (a ∷ b ∷ c ∷ []) e o v f S = S
tags_sound bytes (a ∷ b ∷ c ∷ d ∷ []) e o v f S = S
tags_sound bytes (start ∷ len ∷ kind ∷ low ∷ high ∷ ws) e o v f S =
    let p = cond_both (tag_ok (length bytes) start len kind low high) (tags_ok (length bytes) ws) e in
    let g = value_given_lem (length bytes) kind low high (eqb kind 1) refl (both (inside (length bytes) start len) (value_ok (length bytes) kind low high) p.0).1 in
    let t = tag_of bytes start len kind low high in
    tags_sound bytes ws p.1 o (tag_put o t v) f (tag_sound v S o f t g (key_found t v) (value_found t v))

mark_ok : (kind : ℕ) (b : Bool) → is_kind kind ≡ true → head_ok kind (cond b 1 0) ≡ true
mark_ok kind true e = rw e
mark_ok kind false e = rw e

module _ (f : Head) (words ws bytes : List ℕ) (v : Seen) (S : Sound v) (list : tags_ok (length bytes) ws ≡ true) (kind : is_kind f.kind ≡ true) (shut : v.layer.feature ≡ None) where
  pub feature_opened_lem : Sound (feature_opened f words v)
  feature_opened_lem = opened_sound f.kind (mark_of f) (id_of f) words v S (mark_ok f.kind f.has_id kind) shut

  pub feature_tagged : Sound (tags_put v.layer.used (tags_of bytes ws) (feature_opened f words v))
  feature_tagged = tags_sound bytes ws list v.layer.used (feature_opened f words v) refl feature_opened_lem

  pub feature_sound : Sound (feature_put f words (tags_of bytes ws) v)
  feature_sound = closed_sound (tags_put v.layer.used (tags_of bytes ws) (feature_opened f words v)) feature_tagged v.layer.used (same_feature v.layer.used (tags_of bytes ws) (feature_opened f words v))

pub feature_room : (f : Head) (words : List ℕ) (ts : List Tag) (v : Seen) → (feature_put f words ts v).room ≡ v.room
feature_room f words ts v = same_room v.layer.used ts (feature_opened f words v)

module _ (s : Layer) (f : Head) (words ws bytes ks vs ts fs : List ℕ) (x : Index) (M : MayPut s f words ws bytes (mem ks vs ts fs) x) where
  abbrev before : Seen
  before = seen s (mem ks vs ts fs)

  abbrev begun : Seen
  begun = feature_opened f words before

  abbrev all : Seen
  all = tags_put s.used (tags_of bytes ws) begun

  sound_before : Sound before
  sound_before = sound before M.welcome.stands (seen_lengths s (mem ks vs ts fs) M.welcome.stands)

  sound_begun : Sound begun
  sound_begun = feature_opened_lem f words ws bytes before sound_before M.welcome.list M.welcome.kind_good M.welcome.shut

  room_begun : fits begun.layer.used before.room ≡ true
  room_begun = fits_before begun.layer.used all.layer.used before.room (tags_grow s.used (tags_of bytes ws) begun) M.room

  fit_begun : Fit begun.layer.used (length ks) (length vs) (length ts) (length fs)
  fit_begun = fit begun.layer.used (length ks) (length vs) (length ts) (length fs) room_begun

  pub few_words : length words ≤ max_words
  few_words = M.welcome.few

  pub record_fits : s.used.features + (6 + length words) ≤ length fs
  record_fits = fit_begun.in_features

  pub put_fit : Fit s.used (length ks) (length vs) (length ts) (length fs)
  put_fit = valid_fit s ks vs ts fs M.welcome.stands

  module _ (mark id : ℕ) (a : mark ≡ mark_of f) (b : id ≡ id_of f) (fs₁ : List ℕ) (e : fs₁ ≡ lay s.used.features (record_with f.kind mark id words) fs) where
    abbrev opened : Layer
    opened = with_used s (more_words s.used (6 + length words)) (Some s.used)

    left_begun : Leaves begun opened (mem ks vs ts fs) (mem ks vs ts fs₁) x x
    left_begun =
        let F = put_fit in
        let c = front_run s.used.features fs F.in_features (record_with f.kind (mark_of f) (id_of f) words) in
        let d : fs₁ ≡ lay s.used.features (record_with f.kind (mark_of f) (id_of f) words) fs = rw (a, b) at e in
        record {
          layer = refl;
          memory = rw (front_take (s.used.keys * 2) ks F.in_keys, front_take (s.used.values * 3) vs F.in_values, front_take s.used.texts ts F.in_texts, c, d);
          kept = kept_same before.room x;
          current = record { keys = M.current.keys; values = M.current.values };
        }

    seen_begun : seen opened (mem ks vs ts fs₁) ≡ begun
    seen_begun = left_seen begun opened (mem ks vs ts fs) (mem ks vs ts fs₁) x x left_begun sound_begun room_begun refl

    pub may_fill : MayFill opened s.used ws bytes (mem ks vs ts fs₁) x
    may_fill =
        record {
          stands = left_valid begun opened (mem ks vs ts fs) (mem ks vs ts fs₁) x x left_begun sound_begun room_begun refl;
          since = refl;
          list = M.welcome.list;
          short = M.welcome.short;
          room = ap (λ (w : Seen). fits (tags_put s.used (tags_of bytes ws) w).layer.used w.room) seen_begun ∙ M.room;
          current = subst (λ (w : Seen). Current w x) (sym seen_begun) (record { keys = M.current.keys; values = M.current.values });
        }

    module _ (t : Layer) (n : Memory) (y : Index) (L : Leaves (tags_put s.used (tags_of bytes ws) (seen opened (mem ks vs ts fs₁))) t (mem ks vs ts fs₁) n x y) where
      left_all : Leaves all t (mem ks vs ts fs₁) n x y
      left_all = subst (λ (w : Seen). Leaves (tags_put s.used (tags_of bytes ws) w) t (mem ks vs ts fs₁) n x y) seen_begun L

      memory_all : n ≡ onto all.held (mem ks vs ts fs)
      memory_all =
          let B = sound_begun.lengths in
          let A = (feature_tagged f words ws bytes before sound_before M.welcome.list M.welcome.kind_good M.welcome.shut).lengths in
          let G = tags_grow s.used (tags_of bytes ws) begun in
          left_all.memory ∙ ap (onto all.held) left_begun.memory
          ∙ onto_onto begun.held all.held (mem ks vs ts fs) (omega (arith, B.keys, A.keys, G.keys)) (omega (arith, B.values, A.values, G.values)) (omega (arith, B.texts, A.texts, G.texts)) (omega (arith, B.features, A.features, G.features))

      pub put_left : Leaves (feature_put f words (tags_of bytes ws) before) (with_used t t.used None) (mem ks vs ts fs) n x y
      put_left =
          record {
            layer = ap (λ (l : Layer). with_used l l.used None) left_all.layer;
            memory = memory_all;
            kept = left_all.kept;
            current = record { keys = left_all.current.keys; values = left_all.current.values };
          }
