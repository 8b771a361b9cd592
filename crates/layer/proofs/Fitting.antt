-- What the tests on figures say: `fits` figure by figure, `room_of` against the lists and the caps, and `records_ok` and `valid` at the returns of the
-- functions that compute them.
use Prim.Native.Nat.{ℕ, ◌*◌, ◌/◌, ◌≤◌}
use mathlib.Core.Path.{◌≡◌, refl, sym, ◌∙◌}
use mathlib.Core.Bool.{Bool, true, false, cond, not, ◌&&◌}
use mathlib.Core.List.{List}
use native.Mathlib.Omega.{arith}
use lib.ListN.{length, take}
use lib.Dec.{leb}
use borrow.Author.Tests.{le-leb, leb-true, not-true, not-false}
use Rattle.std.specs.Prelude.{Option, Some, None}
use Rattle.table.specs.Keys.{keys_in}
use Rattle.table.specs.Values.{values_in}
pub use Rattle.promise.proofs.Joined.{both, never}
use Rattle.promise.proofs.Joined.{same}
pub use Rattle.number.proofs.Least.{smaller_le}
use Rattle.records.specs.Records.{is_found, records_in, one_record}
use Rattle.layer.specs.declared.Figures.{Figures}
use Rattle.layer.specs.declared.Layer.{Layer}
use Rattle.layer.specs.Held.{mem, smaller, room_of, fits, seen, max_keys, max_values, max_texts, max_feature_words}
use Rattle.layer.specs.State.{records_ok, valid}
use Rattle.layer.specs.Steps.{caps}

-- ---- figures
pub record Within (a b : Figures) : Type 0 where
  pub keys : a.keys ≤ b.keys
  pub values : a.values ≤ b.values
  pub texts : a.texts ≤ b.texts
  pub features : a.features ≤ b.features

pub within : (a b : Figures) → fits a b ≡ true → Within a b
within a b e =
    let p = both (leb a.keys b.keys) (leb a.values b.values && (leb a.texts b.texts && leb a.features b.features)) e in
    let q = both (leb a.values b.values) (leb a.texts b.texts && leb a.features b.features) p.1 in
    let r = both (leb a.texts b.texts) (leb a.features b.features) q.1 in
    record { keys = leb-true _ _ p.0; values = leb-true _ _ q.0; texts = leb-true _ _ r.0; features = leb-true _ _ r.1 }

pub fits_yes : (a b : Figures) → Within a b → fits a b ≡ true
fits_yes a b w = rw (le-leb _ _ w.keys, le-leb _ _ w.values, le-leb _ _ w.texts, le-leb _ _ w.features)

-- figures that fit into the room fit into the lists and stay at or below the caps
pub record Fit (u : Figures) (keys values texts features : ℕ) : Type 0 where
  pub in_keys : u.keys * 2 ≤ keys
  pub few_keys : u.keys ≤ max_keys
  pub in_values : u.values * 3 ≤ values
  pub few_values : u.values ≤ max_values
  pub in_texts : u.texts ≤ texts
  pub few_texts : u.texts ≤ max_texts
  pub in_features : u.features ≤ features
  pub few_features : u.features ≤ max_feature_words

pub fit : (u : Figures) (keys values texts features : ℕ) → fits u (room_of keys values texts features) ≡ true → Fit u keys values texts features
fit u keys values texts features e =
    let w = within u (room_of keys values texts features) e in
    let k = smaller_le (keys / 2) max_keys in
    let v = smaller_le (values / 3) max_values in
    let t = smaller_le texts max_texts in
    let f = smaller_le features max_feature_words in
    record {
      in_keys = omega (arith, w.keys, k.0);
      few_keys = omega (arith, w.keys, k.1);
      in_values = omega (arith, w.values, v.0);
      few_values = omega (arith, w.values, v.1);
      in_texts = omega (arith, w.texts, t.0);
      few_texts = omega (arith, w.texts, t.1);
      in_features = omega (arith, w.features, f.0);
      few_features = omega (arith, w.features, f.1);
    }

-- what exceeds neither does not exceed the smaller
le_smaller : (u a b : ℕ) → u ≤ a → u ≤ b → u ≤ smaller a b
le_smaller u a b p q = by (leb a b)
  where
    by : (t : Bool) → u ≤ cond t a b
    by true = p
    by false = q

-- `has_room_for`: the caps first, then the lists
abbrev InLists : Figures → ℕ → ℕ → ℕ → ℕ → Bool
InLists u keys values texts features = leb (u.keys * 2) keys && (leb (u.values * 3) values && (leb u.texts texts && leb u.features features))

pub over_caps : (u : Figures) (keys values texts features : ℕ) (r : Bool) → r ≡ fits u caps → not r ≡ true → false ≡ fits u (room_of keys values texts features)
over_caps u keys values texts features r g h = by (fits u (room_of keys values texts features)) refl
  where
    by : (t : Bool) → fits u (room_of keys values texts features) ≡ t → false ≡ t
    by true q =
        let F = fit u keys values texts features q in
        let c : fits u caps ≡ true = fits_yes u caps (record { keys = F.few_keys; values = F.few_values; texts = F.few_texts; features = F.few_features }) in
        never (sym (sym g ∙ not-true r h) ∙ c)
    by false q = refl

pub in_lists : (u : Figures) (keys values texts features : ℕ) (r : Bool) → r ≡ fits u caps → not r ≡ false → InLists u keys values texts features ≡ fits u (room_of keys values texts features)
in_lists u keys values texts features r g h =
    let W = within u caps (sym g ∙ not-false r h) in
    same (InLists u keys values texts features) (fits u (room_of keys values texts features))
    (λ e.
    let a = both (leb (u.keys * 2) keys) (leb (u.values * 3) values && (leb u.texts texts && leb u.features features)) e in
    let b = both (leb (u.values * 3) values) (leb u.texts texts && leb u.features features) a.1 in
    let c = both (leb u.texts texts) (leb u.features features) b.1 in
    let k = leb-true (u.keys * 2) keys a.0 in
    let v = leb-true (u.values * 3) values b.0 in
    let t = leb-true u.texts texts c.0 in
    let f = leb-true u.features features c.1 in
    fits_yes u (room_of keys values texts features)
    (record {
      keys = le_smaller u.keys (keys / 2) max_keys (omega arith) W.keys;
      values = le_smaller u.values (values / 3) max_values (omega arith) W.values;
      texts = le_smaller u.texts texts max_texts t W.texts;
      features = le_smaller u.features features max_feature_words f W.features;
    }))
    (λ e.
    let F = fit u keys values texts features e in
    rw (le-leb (u.keys * 2) keys F.in_keys, le-leb (u.values * 3) values F.in_values, le-leb u.texts texts F.in_texts, le-leb u.features features F.in_features))

-- the same where a function answered it
pub told_fit : (u : Figures) (keys values texts features : ℕ) (r : Bool) → r ≡ fits u (room_of keys values texts features) → not r ≡ false → Fit u keys values texts features
told_fit u keys values texts features r g h = fit u keys values texts features (sym g ∙ not-false r h)

-- ---- `since_ok`
module _ (o used : Figures) (ws : List ℕ) (r : Bool) (g : r ≡ fits o used) where
  pub since_not : not r ≡ true → false ≡ records_ok (Some o) used ws
  since_not h = rw (← g, not-true r h)

  pub since_at : not r ≡ false → length ws ≡ used.features → o.features ≤ length ws
  since_at h e = omega (arith, (within o used (sym g ∙ not-false r h)).features)

  pub since_is : not r ≡ false → (f : Option ℕ) → f ≡ records_in 0 0 (take o.features ws) → (a b : Bool) → a ≡ is_found f → b ≡ one_record ws o.features → (a && b) ≡ records_ok (Some o) used ws
  since_is h f p a b x y = rw (← g, not-false r h, x, y, p)

-- ---- `records_ok`
module _ (f : Option Figures) (used : Figures) (ws : List ℕ) where
  pub shut_is : f ≡ None → (n : Option ℕ) → n ≡ records_in 0 0 ws → (r : Bool) → r ≡ is_found n → r ≡ records_ok f used ws
  shut_is e n p r g = rw (e, g, p)

  pub open_is : (o : Figures) → f ≡ Some o → (r : Bool) → r ≡ records_ok (Some o) used ws → r ≡ records_ok f used ws
  open_is o e r g = rw e g

-- ---- `is_valid`
module _ (s : Layer) (ks vs ts fs : List ℕ) (r : Bool) (g : r ≡ fits s.used (room_of (length ks) (length vs) (length ts) (length fs))) where
  pub unfit : not r ≡ true → false ≡ valid (seen s (mem ks vs ts fs))
  unfolding valid
  unfit h = rw (← g, not-true r h)

  pub valid_is : not r ≡ false → (a b c : Bool) → a ≡ keys_in s.used.texts (take (s.used.keys * 2) ks) → b ≡ values_in s.used.texts (take (s.used.values * 3) vs) → c ≡ records_ok s.feature s.used (take s.used.features fs) → (leb s.name s.used.texts && (a && (b && c))) ≡ valid (seen s (mem ks vs ts fs))
  unfolding valid
  valid_is h a b c x y z = rw (← g, not-false r h, x, y, z)
