-- Rollback: from a layer with no feature open, any run of calls that completes no feature, and then abandoning, leaves what was seen before it (`rolled`);
-- so later calls answer as if no feature had been opened (`rolled_back`). And every call on a layer as calls make it gives one that breaks no rule of
-- STATE (`sound_next`, from `new_sound` on).
use Prim.Native.Nat.{ℕ, ◌+◌, ◌*◌, ◌/◌, ◌≤◌, ◌<◌, zero-le}
use mathlib.Core.Path.{◌≡◌, refl, sym, ap, ◌∙◌}
use mathlib.Core.Bool.{Bool, true, false}
use mathlib.Core.List.{List, [], ◌∷◌, ◌++◌}
use mathlib.Core.Logic.{◌⊎◌, inl, inr}
use native.Mathlib.Omega.{arith}
use lib.Dec.{leb}
use lib.ListN.{length}
use lib.Seq.{take_at, take_all, take-append-le, length-take-le}
use borrow.Author.Tests.{le-leb, eq-eqb}
use Rattle.promise.specs.Laid.{lay}
use Rattle.refusal.specs.declared.Refusal.{Refusal}
use Rattle.refusal.specs.declared.Refusal.TheVariants.{Kind, State, Room, Turn}
use Rattle.words.specs.Geometries.{is_kind, max_words}
use Rattle.layer.specs.declared.Figures.{Figures}
use Rattle.std.specs.Prelude.{Some, None}
use Rattle.layer.specs.declared.Layer.{Layer}
use Rattle.layer.specs.Held.{Memory, Seen, seen, Change, refuses, holds, fits, held_by, smaller, max_texts, next}
use Rattle.layer.specs.State.{valid}
use Rattle.layer.specs.Calls.{Tag, is_value, is_shut, more_words, with_features, new_record, more_of, put_of, key_words, value_words, key_found, value_found, tag_put, new_layer, chosen, tag_string, tag_bits, bit_of}
use Rattle.layer.proofs.Fitting.{both, Within, fits_yes, smaller_le}
use Rattle.layer.proofs.Standing.{whole}
use Rattle.rollback.specs.Runs.{Call, opens, marks, tags, closes, abandons, does, is_open_ended, open_ended, answers, layer_after, memory_after}
use Rattle.layer.proofs.Keeping.{Lengths, Fine, sound, by_check, by_open, is_shut_lem, take_lay_before, opening_in, marked_in, tag_take}
use Rattle.layer.proofs.Checked.{by_tag}
use Rattle.layer.proofs.After.{seen_lengths}
use Rattle.rollback.proofs.Good.{opened_fine, closed_fine, marked_fine, tag_fine}
use Rattle.rollback.proofs.Seen.{seen_after, after_seen, same_used}

-- v has a feature open, opened where v₀ was seen
pub record From (v₀ v : Seen) : Type 0 where
  pub extent : v.layer.extent ≡ v₀.layer.extent
  pub strict : v.layer.strict ≡ v₀.layer.strict
  pub name : v.layer.name ≡ v₀.layer.name
  pub since : v.layer.feature ≡ Some v₀.layer.used
  pub cut : held_by v₀.layer.used v.held ≡ v₀.held
  pub room : v.room ≡ v₀.room
  pub fine : Fine v

abbrev pub Stage : Seen → Seen → Type 0
Stage v₀ v = (v ≡ v₀) ⊎ From v₀ v

-- ---- where no feature is open
module _ (v₀ : Seen) (L : valid v₀ ≡ true → Lengths v₀) (s : v₀.layer.feature ≡ None) where
  not_open : {X : Type 0} (o : Figures) → v₀.layer.feature ≡ Some o → X
  not_open o f = absurd (let z : ◌≡◌ {A = ℕ} 0 1 = cc in omega arith)

  cut_opened : (kind : ℕ) (words : List ℕ) → Lengths v₀ → held_by v₀.layer.used (with_features v₀.held (v₀.held.features ++ new_record kind words)) ≡ v₀.held
  cut_opened kind words l =
      rw (take_all (v₀.layer.used.keys * 2) v₀.held.keys (omega (arith, l.keys)), take_all (v₀.layer.used.values * 3) v₀.held.values (omega (arith, l.values)), take_all v₀.layer.used.texts v₀.held.texts (omega (arith, l.texts)), take_at v₀.held.features (new_record kind words) v₀.layer.used.features l.features)

  start : (c : Call) → is_open_ended c ≡ true → Stage v₀ (next (does c v₀) v₀)
  start (opens kind words) n =
      by_check (λ (x : Change). Stage v₀ (next x v₀)) (is_kind kind) Kind _ (inl refl) (λ k.
      by_check (λ (x : Change). Stage v₀ (next x v₀)) (valid v₀) State _ (inl refl) (λ e.
      by_check (λ (x : Change). Stage v₀ (next x v₀)) (is_shut v₀.layer.feature) Turn _ (inl refl) (λ f.
      by_check (λ (x : Change). Stage v₀ (next x v₀)) (leb (length words) max_words) Room _ (inl refl) (λ m.
      by_check (λ (x : Change). Stage v₀ (next x v₀)) (fits (more_words v₀.layer.used (6 + length words)) v₀.room) Room _ (inl refl) (λ h.
      inr (record { extent = refl; strict = refl; name = refl; since = refl; cut = cut_opened kind words (L e); room = refl; fine = opened_fine v₀ (L e) e kind words k s h }))))))
  start (marks low high) n =
      by_check (λ (x : Change). Stage v₀ (next x v₀)) (valid v₀) State _ (inl refl) (λ e.
      by_open (λ (x : Change). Stage v₀ (next x v₀)) v₀.layer.feature _ (inl refl) (λ o f. not_open o f))
  start (tags t g) n =
      by_tag (λ (x : Change). Stage v₀ (next x v₀)) t v₀ (λ q n. inl refl) (λ e u o f a h. not_open o f)
  start closes n = absurd (let z : ◌≡◌ {A = ℕ} 0 1 = cc in omega arith)
  start abandons n =
      by_check (λ (x : Change). Stage v₀ (next x v₀)) (valid v₀) State _ (inl refl) (λ e.
      by_open (λ (x : Change). Stage v₀ (next x v₀)) v₀.layer.feature _ (inl refl) (λ o f. not_open o f))

  -- ---- where one is open that was opened there
  module _ (v : Seen) (F : From v₀ v) where
    opening_is : (o : Figures) → v.layer.feature ≡ Some o → o ≡ v₀.layer.used
    opening_is o f = cc F.since

    still_open : {X : Type 0} → is_shut v.layer.feature ≡ true → X
    still_open h = absurd (let e : v.layer.feature ≡ None = is_shut_lem v.layer.feature h in let z : ◌≡◌ {A = ℕ} 0 1 = cc F.since in omega arith)

    pub back : next (does abandons v) v ≡ v₀
    back = rw (F.fine.stands, F.since) (again v.layer.extent v.layer.strict v.layer.name (held_by v₀.layer.used v.held) v.room F.extent F.strict F.name F.cut F.room)
      where
        again : (x : ℕ) (c : Bool) (n : ℕ) (h : Memory) (r : Figures) → x ≡ v₀.layer.extent → c ≡ v₀.layer.strict → n ≡ v₀.layer.name → h ≡ v₀.held → r ≡ v₀.room → ◌≡◌ {A = Seen} (record { layer = record { extent = x; strict = c; name = n; used = v₀.layer.used; feature = None }; held = h; room = r }) v₀
        again x c n h r a k b i d = rw (a, k, b, i, d, ← s)

    -- what is cut back to stays, where it stays up to the opening figures
    module _ (o : Figures) (f : v.layer.feature ≡ Some o) where
      cut_as : (h : Memory) → held_by o h ≡ held_by o v.held → held_by v₀.layer.used h ≡ v₀.held
      cut_as h e =
          let q = opening_is o f in
          ap (λ (x : Figures). held_by x h) (sym q) ∙ e ∙ ap (λ (x : Figures). held_by x v.held) q ∙ F.cut

      in_used : Within o v.layer.used
      in_used = opening_in v (sound v F.fine.stands F.fine.lengths) o f

      marked_from : (low high : ℕ) → From v₀ (next (holds v.layer (with_features v.held (lay (o.features + 1) (1 ∷ low ∷ high ∷ []) v.held.features))) v)
      marked_from low high =
          let k : held_by o (with_features v.held (lay (o.features + 1) (1 ∷ low ∷ high ∷ []) v.held.features)) ≡ held_by o v.held =
          rw (take_lay_before o.features (o.features + 1) (1 ∷ low ∷ high ∷ []) v.held.features (omega arith) (marked_in v (sound v F.fine.stands F.fine.lengths) o f low high)) in
          record { extent = F.extent; strict = F.strict; name = F.name; since = F.since; cut = cut_as _ k; room = F.room; fine = marked_fine v F.fine.lengths F.fine.stands o f low high }

      module _ (t : Tag) (g : is_value t.value ≡ true) (h : fits (tag_put o t v).layer.used v.room ≡ true) where
        tag_kept : held_by o (tag_put o t v).held ≡ held_by o v.held
        tag_kept =
            let W = in_used in
            let L = F.fine.lengths in
            let kf = key_found t v in
            let vf = value_found t v in
            rw (
              take-append-le (o.keys * 2) v.held.keys (put_of kf (key_words v.layer.used.texts t.key)) (omega (arith, W.keys, L.keys)),
              take-append-le (o.values * 3) v.held.values (put_of vf (value_words (v.layer.used.texts + more_of kf (length t.key)) t.value t.text)) (omega (arith, W.values, L.values)),
              take-append-le o.texts v.held.texts (put_of kf t.key ++ put_of vf t.text) (omega (arith, W.texts, L.texts)),
              tag_take v (sound v F.fine.stands F.fine.lengths) o f t g kf vf,
            )

        tag_from : From v₀ (tag_put o t v)
        tag_from = record { extent = F.extent; strict = F.strict; name = F.name; since = F.since; cut = cut_as (tag_put o t v).held tag_kept; room = F.room; fine = tag_fine v F.fine.lengths F.fine.stands o f t g h }

    onward : (c : Call) → is_open_ended c ≡ true → Stage v₀ (next (does c v) v)
    onward (opens kind words) n =
        by_check (λ (x : Change). Stage v₀ (next x v)) (is_kind kind) Kind _ (inr F) (λ k.
        by_check (λ (x : Change). Stage v₀ (next x v)) (valid v) State _ (inr F) (λ e.
        by_check (λ (x : Change). Stage v₀ (next x v)) (is_shut v.layer.feature) Turn _ (inr F) (λ f. still_open f)))
    onward (marks low high) n =
        by_check (λ (x : Change). Stage v₀ (next x v)) (valid v) State _ (inr F) (λ e.
        by_open (λ (x : Change). Stage v₀ (next x v)) v.layer.feature _ (inr F) (λ o f. inr (marked_from o f low high)))
    onward (tags t g) n =
        by_tag (λ (x : Change). Stage v₀ (next x v)) t v (λ q n. inr F) (λ e u o f a h. inr (tag_from o f t g h))
    onward closes n = absurd (let z : ◌≡◌ {A = ℕ} 0 1 = cc in omega arith)
    onward abandons n = inl back

  pub step : (c : Call) (v : Seen) → is_open_ended c ≡ true → Stage v₀ v → Stage v₀ (next (does c v) v)
  step c v n (inl e) = rw e (start c n)
  step c v n (inr F) = onward v F c n

  run : (cs : List Call) (v : Seen) → open_ended cs ≡ true → Stage v₀ v → seen_after (cs ++ (abandons ∷ [])) v ≡ v₀
  run [] v n (inl e) = rw e (by_check (λ (x : Change). next x v₀ ≡ v₀) (valid v₀) State _ refl (λ e. by_open (λ (x : Change). next x v₀ ≡ v₀) v₀.layer.feature _ refl (λ o f. not_open o f)))
  run [] v n (inr F) = back v F
  run (c ∷ cs) v n S = let p = both (is_open_ended c) (open_ended cs) n in run cs (next (does c v) v) p.1 (step c v p.0 S)

  pub rolled : (cs : List Call) → open_ended cs ≡ true → seen_after (cs ++ (abandons ∷ [])) v₀ ≡ v₀
  rolled cs n = run cs v₀ n (inl refl)

-- later calls answer as if no feature had been opened, and leave what they would have left
module _ (s : Layer) (m : Memory) (f : s.feature ≡ None) (since : List Call) (n : open_ended since ≡ true) (later : List Call) where
  pub unseen : seen (layer_after (since ++ (abandons ∷ [])) s m) (memory_after (since ++ (abandons ∷ [])) s m) ≡ seen s m
  unseen = after_seen (since ++ (abandons ∷ [])) s m ∙ rolled (seen s m) (seen_lengths s m) f since n

  pub rolled_back : answers later (layer_after (since ++ (abandons ∷ [])) s m) (memory_after (since ++ (abandons ∷ [])) s m) ≡ answers later s m
  rolled_back = same_used later (layer_after (since ++ (abandons ∷ [])) s m) s (memory_after (since ++ (abandons ∷ [])) s m) m unseen

-- ---- accepted or not, a call on a layer as calls make it gives one that breaks no rule of STATE
-- the layer breaks no rule, and if a feature is open, the layer where it was opened did not either
pub record Opened (v : Seen) : Type 0 where
  pub earlier : Seen
  pub shut : earlier.layer.feature ≡ None
  pub fine : Fine earlier
  pub from : From earlier v

pub record Sound (v : Seen) : Type 0 where
  pub fine : Fine v
  pub opening : (v.layer.feature ≡ None) ⊎ Opened v

module _ (v₀ : Seen) (F₀ : Fine v₀) (s : v₀.layer.feature ≡ None) where
  stage_sound : (w : Seen) → Stage v₀ w → Sound w
  stage_sound w (inl e) = rw e (record { fine = F₀; opening = inl s })
  stage_sound w (inr F) = record { fine = F.fine; opening = inr (record { earlier = v₀; shut = s; fine = F₀; from = F }) }

closes_sound : (v : Seen) → Sound v → Sound (next (does closes v) v)
closes_sound v S =
    by_check (λ (x : Change). Sound (next x v)) (valid v) State _ S (λ e.
    by_open (λ (x : Change). Sound (next x v)) v.layer.feature _ S (λ o f.
    record { fine = closed_fine v S.fine.lengths e o f; opening = inl refl }))

pub sound_next : (c : Call) (v : Seen) → Sound v → Sound (next (does c v) v)
sound_next c v S = by c S.opening
  where
    still : (c : Call) → is_open_ended c ≡ true → (v.layer.feature ≡ None) ⊎ Opened v → Sound (next (does c v) v)
    still c n (inl s) = stage_sound v S.fine s (next (does c v) v) (start v (λ e. S.fine.lengths) s c n)
    still c n (inr O) = stage_sound O.earlier O.fine O.shut (next (does c v) v) (onward O.earlier (λ e. O.fine.lengths) O.shut v O.from c n)

    by : (c : Call) → (v.layer.feature ≡ None) ⊎ Opened v → Sound (next (does c v) v)
    by (opens kind words) x = still (opens kind words) refl x
    by (marks low high) x = still (marks low high) refl x
    by (tags t g) x = still (tags t g) refl x
    by closes x = closes_sound v S
    by abandons x = still abandons refl x

pub sound_after : (cs : List Call) (v : Seen) → Sound v → Sound (seen_after cs v)
sound_after [] v S = S
sound_after (c ∷ cs) v S = sound_after cs (next (does c v) v) (sound_next c v S)

-- so no call of a run is refused as STATE
abbrev refusal_of : Change → Refusal
refusal_of (refuses q) = q
refusal_of (holds t h) = State

abbrev OtherThanState : Change → Type 0
OtherThanState x = x ≡ refuses State → ⊥

pub never_state : (c : Call) (v : Seen) → Sound v → does c v ≡ refuses State → ⊥
never_state (opens kind words) v S =
    by_check OtherThanState (is_kind kind) Kind _ (λ e. let z : ◌≡◌ {A = ℕ} 0 1 = cc in omega arith) (λ k.
    rw S.fine.stands
    (by_check OtherThanState (is_shut v.layer.feature) Turn _ (λ e. let z : ◌≡◌ {A = ℕ} 0 1 = cc in omega arith) (λ f.
    by_check OtherThanState (leb (length words) max_words) Room _ (λ e. let z : ◌≡◌ {A = ℕ} 0 1 = cc in omega arith) (λ m.
    by_check OtherThanState (fits (more_words v.layer.used (6 + length words)) v.room) Room _ (λ e. let z : ◌≡◌ {A = ℕ} 0 1 = cc in omega arith) (λ h e.
    let z : ◌≡◌ {A = ℕ} 0 1 = cc in omega arith)))))
never_state (marks low high) v S =
    rw S.fine.stands
    (by_open OtherThanState v.layer.feature _ (λ e. let z : ◌≡◌ {A = ℕ} 0 1 = cc in omega arith) (λ o f e. let z : ◌≡◌ {A = ℕ} 0 1 = cc in omega arith))
never_state (tags t g) v S =
    by_tag OtherThanState t v (λ q n e. let y : valid v ≡ false = n (ap refusal_of e) in let s = S.fine.stands in let z : ◌≡◌ {A = ℕ} 0 1 = cc in omega arith) (λ e u o f a h k. let z : ◌≡◌ {A = ℕ} 0 1 = cc in omega arith)
never_state closes v S =
    rw S.fine.stands
    (by_open OtherThanState v.layer.feature _ (λ e. let z : ◌≡◌ {A = ℕ} 0 1 = cc in omega arith) (λ o f e. let z : ◌≡◌ {A = ℕ} 0 1 = cc in omega arith))
never_state abandons v S =
    rw S.fine.stands
    (by_open OtherThanState v.layer.feature _ (λ e. let z : ◌≡◌ {A = ℕ} 0 1 = cc in omega arith) (λ o f e. let z : ◌≡◌ {A = ℕ} 0 1 = cc in omega arith))

-- a new layer is sound, strict or not, in lists of any length that hold its name
pub new_sound : (b : Bool) (name : List ℕ) (extent : ℕ) (m : Memory) → length name ≤ smaller (length m.texts) max_texts → Sound (seen (chosen b (new_layer name extent)) m)
new_sound b name extent m h =
    let v = seen (chosen b (new_layer name extent)) m in
    let k = le-leb (length name) (smaller (length m.texts) max_texts) h in
    let l = le-leb (length name) (length name) (omega arith) in
    let t = length-take-le (length name) m.texts (omega (arith, smaller_le (length m.texts) max_texts)) in
    record {
      fine = record {
        stands = whole v (record { room = fits_yes v.layer.used v.room (record { keys = zero-le; values = zero-le; texts = h; features = zero-le }); name = l; keys = refl; values = refl; records = refl });
        lengths = record { keys = refl; values = refl; texts = t; features = refl };
      };
      opening = inl refl;
    }

-- ---- the seven tag calls make values
pub string_value : (key text : List ℕ) → is_value (tag_string key text).value ≡ true
string_value key text = refl

pub float_value : (key : List ℕ) (bits : ℕ) → bits < 4294967296 → is_value (tag_bits 2 key bits).value ≡ true
float_value key bits h = eq-eqb (bits / 4294967296) 0 (omega arith)

pub double_value : (key : List ℕ) (bits : ℕ) → is_value (tag_bits 3 key bits).value ≡ true
double_value key bits = refl

pub int_value : (key : List ℕ) (bits : ℕ) → is_value (tag_bits 4 key bits).value ≡ true
int_value key bits = refl

pub uint_value : (key : List ℕ) (bits : ℕ) → is_value (tag_bits 5 key bits).value ≡ true
uint_value key bits = refl

pub sint_value : (key : List ℕ) (bits : ℕ) → is_value (tag_bits 6 key bits).value ≡ true
sint_value key bits = refl

pub bool_value : (key : List ℕ) (b : Bool) → is_value (tag_bits 7 key (bit_of b)).value ≡ true
bool_value key true = refl
bool_value key false = refl
