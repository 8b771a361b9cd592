-- What a layer that breaks no rule of STATE is: `parts` takes `valid` apart, `whole` puts it together, and `Stands` is what the calls use of it.
use Prim.Native.Nat.{ℕ, ◌+◌, ◌≤◌}
use mathlib.Core.Path.{◌≡◌, sym, ◌∙◌}
use mathlib.Core.Bool.{Bool, true, false, not, ◌&&◌}
use mathlib.Core.List.{List}
use native.Mathlib.Omega.{arith}
use lib.ListN.{length, take, get_or}
use lib.Seq.{length-take-le, get_or-take}
use lib.Dec.{leb}
use borrow.Author.Tests.{not-false, leb-true}
use Rattle.table.specs.Texts.{max_bytes, short_text}
use Rattle.table.specs.Keys.{keys_in}
use Rattle.table.specs.Values.{values_in}
use Rattle.records.specs.Records.{follow, one_record}
use Rattle.records.proofs.Growing.{last_six}
use Rattle.layer.specs.declared.Figures.{Figures}
use Rattle.std.specs.Prelude.{Option, Some}
use Rattle.layer.specs.declared.Layer.{Layer}
use Rattle.layer.specs.Held.{mem, room_of, fits, Seen, seen}
use Rattle.layer.specs.State.{records_ok, valid}
use Rattle.layer.specs.Steps.{Ready}
use Rattle.layer.proofs.Fitting.{both, Within, within, Fit, fit}

pub record Parts (v : Seen) : Type 0 where
  pub room : fits v.layer.used v.room ≡ true
  pub name : leb v.layer.name v.layer.used.texts ≡ true
  pub keys : keys_in v.layer.used.texts v.held.keys ≡ true
  pub values : values_in v.layer.used.texts v.held.values ≡ true
  pub records : records_ok v.layer.feature v.layer.used v.held.features ≡ true

pub parts : (v : Seen) → valid v ≡ true → Parts v
unfolding valid
parts v e =
    let a = fits v.layer.used v.room in
    let b = leb v.layer.name v.layer.used.texts in
    let k = keys_in v.layer.used.texts v.held.keys in
    let w = values_in v.layer.used.texts v.held.values in
    let r = records_ok v.layer.feature v.layer.used v.held.features in
    let p = both a (b && (k && (w && r))) e in
    let q = both b (k && (w && r)) p.1 in
    let x = both k (w && r) q.1 in
    let y = both w r x.1 in
    record { room = p.0; name = q.0; keys = x.0; values = y.0; records = y.1 }

pub whole : (v : Seen) → Parts v → valid v ≡ true
unfolding valid
whole v P = rw (P.room, P.name, P.keys, P.values, P.records)

pub answered : (t b : Bool) → t ≡ b → not t ≡ false → b ≡ true
answered t b g h = sym g ∙ not-false t h

pub valid_fit : (s : Layer) (ks vs ts fs : List ℕ) → valid (seen s (mem ks vs ts fs)) ≡ true → Fit s.used (length ks) (length vs) (length ts) (length fs)
valid_fit s ks vs ts fs e = fit s.used (length ks) (length vs) (length ts) (length fs) (parts (seen s (mem ks vs ts fs)) e).room

-- where a function answered it
module _ (s : Layer) (ks vs ts fs : List ℕ) (t : Bool) (g : t ≡ valid (seen s (mem ks vs ts fs))) (h : not t ≡ false) where
  pub valid_room : fits s.used (room_of (length ks) (length vs) (length ts) (length fs)) ≡ true
  valid_room = (parts (seen s (mem ks vs ts fs)) (answered t (valid (seen s (mem ks vs ts fs))) g h)).room

-- an open feature
pub record OpenParts (o used : Figures) (ws : List ℕ) : Type 0 where
  pub room : fits o used ≡ true
  pub before : follow (take o.features ws) ≡ true
  pub last : one_record ws o.features ≡ true

pub open_parts : (f : Option Figures) (o used : Figures) (ws : List ℕ) → f ≡ Some o → records_ok f used ws ≡ true → OpenParts o used ws
open_parts f o used ws e h =
    let g : records_ok (Some o) used ws ≡ true = rw e at h in
    let p = both (fits o used) (follow (take o.features ws) && one_record ws o.features) g in
    let q = both (follow (take o.features ws)) (one_record ws o.features) p.1 in
    record { room = p.0; before = q.0; last = q.1 }

-- its six words and its tag words are there
pub open_record : (v : Seen) (o : Figures) → valid v ≡ true → length v.held.features ≡ v.layer.used.features → v.layer.feature ≡ Some o → o.features + 6 + get_or v.held.features (o.features + 4) 0 ≤ v.layer.used.features
open_record v o e l f =
    let P = open_parts v.layer.feature o v.layer.used v.held.features f (parts v e).records in
    let W = within o v.layer.used P.room in
    let g = last_six v.held.features o.features (omega (arith, W.features, l)) P.last in
    omega (arith, g, l)

pub record OpenAt (o used : Figures) (fs : List ℕ) : Type 0 where
  pub within : Within o used
  pub six : o.features + 6 + get_or fs (o.features + 4) 0 ≤ used.features

pub open_at : (s : Layer) (o : Figures) (ks vs ts fs : List ℕ) → valid (seen s (mem ks vs ts fs)) ≡ true → s.feature ≡ Some o → OpenAt o s.used fs
open_at s o ks vs ts fs e f =
    let P = open_parts s.feature o s.used (take s.used.features fs) f (parts (seen s (mem ks vs ts fs)) e).records in
    let l = length-take-le s.used.features fs (valid_fit s ks vs ts fs e).in_features in
    let g = open_record (seen s (mem ks vs ts fs)) o e l f in
    record { within = within o s.used P.room; six = by (omega (arith, g)) g }
  where
    by : o.features + 6 ≤ s.used.features → o.features + 6 + get_or (take s.used.features fs) (o.features + 4) 0 ≤ s.used.features → o.features + 6 + get_or fs (o.features + 4) 0 ≤ s.used.features
    by h g = omega (arith, g, get_or-take s.used.features fs (o.features + 4) 0 (omega arith))

-- a tag may be put
module _ (s : Layer) (ks vs ts fs : List ℕ) (t : Bool) (g : t ≡ valid (seen s (mem ks vs ts fs))) (h : not t ≡ false) where
  pub tag_ready : (key text : ℕ) (a b : Bool) → a ≡ short_text key → not a ≡ false → b ≡ short_text text → not b ≡ false → (o : Figures) → s.feature ≡ Some o → Ready s o key text (mem ks vs ts fs)
  tag_ready key text a b p i q j o f =
      record {
        room = valid_room s ks vs ts fs t g h;
        six = (open_at s o ks vs ts fs (answered t (valid (seen s (mem ks vs ts fs))) g h) f).six;
        small_key = leb-true key max_bytes (answered a (short_text key) p i);
        small_text = leb-true text max_bytes (answered b (short_text text) q j);
      }
