-- A tag whose key and value are looked up by the indexes: what they find is what a scan finds, it has room, and what `put_tag_at` leaves behind.
use Prim.Native.Nat.{ℕ, ◌*◌}
use mathlib.Core.Path.{◌≡◌, sym, ap, subst, ◌∙◌}
use mathlib.Core.Bool.{true}
use mathlib.Core.List.{List}
use native.Mathlib.Omega.{arith}
use lib.ListN.{length, take}
use Rattle.std.specs.Prelude.{Option}
use Rattle.table.specs.declared.Value.{Value}
use Rattle.index.specs.Hashes.{hash_text, hash_value}
use Rattle.layer.specs.declared.Figures.{Figures}
use Rattle.layer.specs.declared.Layer.{Layer}
use Rattle.layer.specs.Held.{mem, room_of, fits, Seen, seen}
use Rattle.layer.specs.Calls.{Tag, key_found, value_found, grown_by, tag_put_by, tag_put, with_used}
use Rattle.layer.specs.Steps.{Small, TagRoom, laid_tag}
use Rattle.layer.specs.Lookup.{idx, key_by, value_by, noted}
use Rattle.layer.specs.WholeSteps.{Leaves, MayTag}
use Rattle.layer.proofs.Fitting.{Fit, fit}
use Rattle.layer.proofs.Standing.{valid_fit, OpenAt, open_at}
use Rattle.layer.proofs.Keeping.{Lengths}
use Rattle.layer.proofs.After.{seen_lengths}
use Rattle.layer.proofs.Tagging.{key_index_lem, value_index_lem, tag_onto, found_room}
use Rattle.layer.proofs.Indexing.{length_noted, not_noted, keys_on, values_on, key_looked, value_looked}

module _ (s : Layer) (o : Figures) (key : List ℕ) (v : Value) (text ks vs ts fs ki vi : List ℕ) (M : MayTag s o (record { key = key; value = v; text = text }) (mem ks vs ts fs) (idx ki vi)) where
  abbrev tag : Tag
  tag = record { key = key; value = v; text = text }

  abbrev before : Seen
  before = seen s (mem ks vs ts fs)

  pub may_fit : Fit s.used (length ks) (length vs) (length ts) (length fs)
  may_fit = valid_fit s ks vs ts fs M.stands

  pub may_small : Small s.used (length key) (length text)
  may_small =
      let F = may_fit in
      record { keys = F.few_keys; values = F.few_values; texts = F.few_texts; features = F.few_features; small_key = M.small_key; small_text = M.small_text }

  opening : OpenAt o s.used fs
  opening = open_at s o ks vs ts fs M.stands M.since

  lengths : Lengths before
  lengths = seen_lengths s (mem ks vs ts fs) M.stands

  module _ (room : Figures) (g : room ≡ room_of (length ks) (length vs) (length ts) (length fs)) (kh vh : ℕ) (p : kh ≡ hash_text key) (q : vh ≡ hash_value v text) (kf vf : Option ℕ) (a : kf ≡ key_by ki room.keys (take (s.used.keys * 2) ks) (take s.used.texts ts) key kh) (b : vf ≡ value_by vi room.values (take (s.used.values * 3) vs) (take s.used.texts ts) v text vh) where
    key_is_lem : kf ≡ key_found tag before
    key_is_lem =
        let F = may_fit in
        let c : kf ≡ key_by ki before.room.keys before.held.keys before.held.texts key (hash_text key) = rw (g, p) at a in
        c ∙ key_looked before M.stands lengths ki key F.few_keys M.current.keys

    value_is_lem : vf ≡ value_found tag before
    value_is_lem =
        let F = may_fit in
        let c : vf ≡ value_by vi before.room.values before.held.values before.held.texts v text (hash_value v text) = rw (g, q) at b in
        c ∙ value_looked before M.stands lengths vi v text F.few_values M.current.values

    as_found : tag_put_by o tag before kf vf ≡ tag_put o tag before
    as_found = ap (λ (x : Option ℕ). tag_put_by o tag before x vf) key_is_lem ∙ ap (λ (y : Option ℕ). tag_put_by o tag before (key_found tag before) y) value_is_lem

    pub may_room : TagRoom s.used o kf vf (length key) (length text) (mem ks vs ts fs)
    may_room =
        let L = lengths in
        let h : fits (tag_put_by o tag before kf vf).layer.used before.room ≡ true = ap (λ (w : Seen). fits w.layer.used before.room) as_found ∙ M.room in
        found_room s.used o kf vf (length key) (length text) ks vs ts fs may_fit may_small opening.six
        (key_index_lem kf before.held.keys before.held.texts key s.used.keys key_is_lem (omega (arith, L.keys)))
        (value_index_lem vf before.held.values before.held.texts v text s.used.values value_is_lem (omega (arith, L.values)))
        (fit (grown_by s.used kf vf (length key) (length text)) (length ks) (length vs) (length ts) (length fs) h)

    module _ (after : Figures) (e : after ≡ grown_by s.used kf vf (length key) (length text)) (ks₂ vs₂ ts₂ fs₂ : List ℕ) (m : mem ks₂ vs₂ ts₂ fs₂ ≡ laid_tag s.used o kf vf tag (mem ks vs ts fs)) (ki₂ vi₂ : List ℕ) (x : ki₂ ≡ noted ki room.keys kf s.used.keys kh) (y : vi₂ ≡ noted vi room.values vf s.used.values vh) where
      noted_keys : ki₂ ≡ noted ki before.room.keys kf s.used.keys (hash_text key)
      noted_keys = rw (g, p) at x

      noted_values : vi₂ ≡ noted vi before.room.values vf s.used.values (hash_value v text)
      noted_values = rw (g, q) at y

      put_as_found : Leaves (tag_put_by o tag before kf vf) (with_used s after s.feature) (mem ks vs ts fs) (mem ks₂ vs₂ ts₂ fs₂) (idx ki vi) (idx ki₂ vi₂)
      put_as_found =
          record {
            layer = ap (λ (u : Figures). with_used s u s.feature) e;
            memory = m ∙ sym (tag_onto s.used o kf vf tag ks vs ts fs may_fit (omega (arith, opening.six)));
            kept = record {
              keys_long = ap length noted_keys ∙ length_noted ki before.room.keys kf s.used.keys (hash_text key);
              values_long = ap length noted_values ∙ length_noted vi before.room.values vf s.used.values (hash_value v text);
              keys_same = λ n. noted_keys ∙ not_noted ki before.room.keys kf s.used.keys (hash_text key) n;
              values_same = λ n. noted_values ∙ not_noted vi before.room.values vf s.used.values (hash_value v text) n;
            };
            current = record {
              keys = rw noted_keys (keys_on before M.stands lengths tag kf vf ki M.current.keys);
              values = rw noted_values (values_on before M.stands lengths tag kf vf vi M.current.values);
            };
          }

      pub tag_left : Leaves (tag_put o tag before) (with_used s after s.feature) (mem ks vs ts fs) (mem ks₂ vs₂ ts₂ fs₂) (idx ki vi) (idx ki₂ vi₂)
      tag_left = subst (λ (w : Seen). Leaves w (with_used s after s.feature) (mem ks vs ts fs) (mem ks₂ vs₂ ts₂ fs₂) (idx ki vi) (idx ki₂ vi₂)) as_found put_as_found
