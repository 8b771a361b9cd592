-- `tagged` at each return of `tag`, and the room that its steps ask for.
use Prim.Native.Nat.{ℕ, ◌+◌, ◌*◌, ◌≤◌}
use mathlib.Core.Path.{◌≡◌, refl, sym, ap, ◌∙◌}
use mathlib.Core.Bool.{Bool, true, false, not}
use mathlib.Core.List.{List, [], ◌∷◌, ◌++◌}
use native.Mathlib.Omega.{arith}
use lib.ListN.{length, take, get_or, set, length-append}
use lib.Seq.{length-take-le, get_or-take}
use borrow.Author.Tests.{not-true, not-false}
use Rattle.promise.specs.Answers.{Gives}
use Rattle.promise.specs.Laid.{lay}
use Rattle.refusal.specs.declared.Refusal.TheVariants.{Room}
use Rattle.refusal.specs.Said.{Said}
use Rattle.std.specs.Prelude.{Option, Some, None, Ok, Err}
use Rattle.table.specs.declared.Value.{Value}
use Rattle.table.specs.Keys.{find_key}
use Rattle.table.specs.Values.{find_value}
use Rattle.table.proofs.Bounds.{key_below, value_below}
use Rattle.layer.specs.declared.Figures.{Figures}
use Rattle.layer.specs.declared.Layer.{Layer}
use Rattle.layer.specs.Held.{Memory, mem, room_of, fits, seen, held_by, onto, written, front}
use Rattle.layer.specs.Answers.{said_changed}
use Rattle.layer.specs.Calls.{Tag, index_of, more_of, put_of, key_words, value_words, grown_by, with_tag, held_with, tagged_by, tagged, with_used}
use Rattle.layer.specs.Steps.{Small, TagRoom, laid_tag, Ready}
use Rattle.layer.proofs.Entries.{twice, thrice}
use Rattle.layer.proofs.Fitting.{Fit, fit}
use Rattle.layer.proofs.Fronts.{front_run, front_set}

-- what is found is among the entries
pub key_index_lem : (f : Option ℕ) (l ts key : List ℕ) (n : ℕ) → f ≡ find_key 0 l ts key → length l ≤ n * 2 → index_of f n ≤ n
key_index_lem (Some i) l ts key n e h = omega (arith, key_below 0 l ts key i (sym e))
key_index_lem None l ts key n e h = omega arith

pub value_index_lem : (f : Option ℕ) (vs ts : List ℕ) (v : Value) (t : List ℕ) (n : ℕ) → f ≡ find_value 0 vs ts v t → length vs ≤ n * 3 → index_of f n ≤ n
value_index_lem (Some i) vs ts v t n e h = omega (arith, value_below 0 vs ts v t i (sym e))
value_index_lem None vs ts v t n e h = omega arith

-- the parts of a tag, laid over the lists, are the lists with the runs laid
module _ (u o : Figures) (kf vf : Option ℕ) (t : Tag) (ks vs ts fs : List ℕ) (F : Fit u (length ks) (length vs) (length ts) (length fs)) (six : o.features + 6 ≤ u.features) where
  pair : List ℕ
  pair = index_of kf u.keys ∷ index_of vf u.values ∷ []

  pub tag_onto : onto (held_with u o (held_by u (mem ks vs ts fs)) t kf vf) (mem ks vs ts fs) ≡ laid_tag u o kf vf t (mem ks vs ts fs)
  unfolding pair
  tag_onto =
      let k = front_run (u.keys * 2) ks F.in_keys (put_of kf (key_words u.texts t.key)) in
      let v = front_run (u.values * 3) vs F.in_values (put_of vf (value_words (u.texts + more_of kf (length t.key)) t.value t.text)) in
      let x = front_run u.texts ts F.in_texts (put_of kf t.key ++ put_of vf t.text) in
      let l : length (take u.features fs ++ pair) ≡ u.features + 2 = length-append (take u.features fs) pair ∙ ap (λ (n : ℕ). n + 2) (length-take-le u.features fs F.in_features) in
      let f : front (with_tag o.features (index_of kf u.keys) (index_of vf u.values) (take u.features fs)) fs ≡ set (lay u.features pair fs) (o.features + 4) (get_or fs (o.features + 4) 0 + 2) =
      front_set (take u.features fs ++ pair) fs (o.features + 4) (get_or (take u.features fs) (o.features + 4) 0 + 2) (omega arith)
      ∙ rw (front_run u.features fs F.in_features pair, get_or-take u.features fs (o.features + 4) 0 (omega arith)) in
      rw (k, v, x, f)

-- what was found, where the figures after the tag fit
pub found_room : (u o : Figures) (kf vf : Option ℕ) (key text : ℕ) (ks vs ts fs : List ℕ) → Fit u (length ks) (length vs) (length ts) (length fs) → Small u key text → o.features + 6 + get_or fs (o.features + 4) 0 ≤ u.features → index_of kf u.keys ≤ u.keys → index_of vf u.values ≤ u.values → Fit (grown_by u kf vf key text) (length ks) (length vs) (length ts) (length fs) → TagRoom u o kf vf key text (mem ks vs ts fs)
found_room u o kf vf key text ks vs ts fs F S six i j G =
    record {
      in_keys = omega (arith, G.in_keys, twice kf);
      in_values = omega (arith, G.in_values, thrice vf);
      in_texts = G.in_texts;
      small_texts = omega (arith, G.few_texts);
      pair = record {
        in_features = G.in_features;
        head = six;
        small_end = G.few_features;
        small_key = omega (arith, F.few_keys, i);
        small_value = omega (arith, F.few_values, j);
      };
      small = S;
    }

module _ (s : Layer) (o : Figures) (key : List ℕ) (v : Value) (text ks vs ts fs : List ℕ) (R : Ready s o (length key) (length text) (mem ks vs ts fs)) where
  pub ready_fit : Fit s.used (length ks) (length vs) (length ts) (length fs)
  ready_fit = fit s.used (length ks) (length vs) (length ts) (length fs) R.room

  pub ready_small : Small s.used (length key) (length text)
  ready_small =
      let F = ready_fit in
      record { keys = F.few_keys; values = F.few_values; texts = F.few_texts; features = F.few_features; small_key = R.small_key; small_text = R.small_text }

  module _ (kf vf : Option ℕ) (a : kf ≡ find_key 0 (take (s.used.keys * 2) ks) (take s.used.texts ts) key) (b : vf ≡ find_value 0 (take (s.used.values * 3) vs) (take s.used.texts ts) v text) where
    key_among : index_of kf s.used.keys ≤ s.used.keys
    key_among =
        let x : length (take (s.used.keys * 2) ks) ≡ s.used.keys * 2 = length-take-le _ _ ready_fit.in_keys in
        key_index_lem kf (take (s.used.keys * 2) ks) (take s.used.texts ts) key s.used.keys a (omega (arith, x))

    value_among_lem : index_of vf s.used.values ≤ s.used.values
    value_among_lem =
        let y : length (take (s.used.values * 3) vs) ≡ s.used.values * 3 = length-take-le _ _ ready_fit.in_values in
        value_index_lem vf (take (s.used.values * 3) vs) (take s.used.texts ts) v text s.used.values b (omega (arith, y))

    -- the figures after the tag decide on ROOM
    module _ (after : Figures) (g : after ≡ grown_by s.used kf vf (length key) (length text)) (q : Bool) (w : q ≡ fits after (room_of (length ks) (length vs) (length ts) (length fs))) where
      told : fits (grown_by s.used kf vf (length key) (length text)) (room_of (length ks) (length vs) (length ts) (length fs)) ≡ q
      told = ap (λ (x : Figures). fits x (room_of (length ks) (length vs) (length ts) (length fs))) (sym g) ∙ sym w

      looked : (r : Said Layer) (n : Memory) → Gives (written (tagged_by (record { key = key; value = v; text = text }) (seen s (mem ks vs ts fs)) o kf vf) s (mem ks vs ts fs)) r n → Gives (written (tagged (record { key = key; value = v; text = text }) (seen s (mem ks vs ts fs)) o) s (mem ks vs ts fs)) r n
      looked r n G = rw (a, b) at G

      pub tag_full : not q ≡ true → Gives (written (tagged (record { key = key; value = v; text = text }) (seen s (mem ks vs ts fs)) o) s (mem ks vs ts fs)) (said_changed (Err (record { refusal = Room; kept = s }))) (mem ks vs ts fs)
      tag_full n = looked _ _ (rw (told, not-true q n) (record { answer = refl; memory = refl }))

      pub tag_room : not q ≡ false → TagRoom s.used o kf vf (length key) (length text) (mem ks vs ts fs)
      tag_room n = found_room s.used o kf vf (length key) (length text) ks vs ts fs ready_fit ready_small R.six key_among value_among_lem (fit (grown_by s.used kf vf (length key) (length text)) (length ks) (length vs) (length ts) (length fs) (told ∙ not-false q n))

      pub tag_done : not q ≡ false → (ks₂ vs₂ ts₂ fs₂ : List ℕ) → mem ks₂ vs₂ ts₂ fs₂ ≡ laid_tag s.used o kf vf (record { key = key; value = v; text = text }) (mem ks vs ts fs) → Gives (written (tagged (record { key = key; value = v; text = text }) (seen s (mem ks vs ts fs)) o) s (mem ks vs ts fs)) (said_changed (Ok (with_used s after s.feature))) (mem ks₂ vs₂ ts₂ fs₂)
      tag_done n ks₂ vs₂ ts₂ fs₂ m =
          looked _ _
          (rw (told, not-false q n)
          (record {
            answer = ap (λ (x : Figures). said_changed (Ok (with_used s x s.feature))) g;
            memory = m ∙ sym (tag_onto s.used o kf vf (record { key = key; value = v; text = text }) ks vs ts fs ready_fit (omega (arith, R.six)));
          }))
