-- From the memory to what is seen of it: parts within the room that are laid over the lists are what is seen then.
use Prim.Native.Nat.{ℕ, ◌*◌, ◌≤◌}
use mathlib.Core.Path.{◌≡◌, ◌∙◌}
use mathlib.Core.Bool.{true}
use mathlib.Core.List.{List}
use native.Mathlib.Omega.{arith}
use lib.ListN.{length, take, drop, length-append, length-drop}
use lib.Seq.{length-take-le, take_at}
use Rattle.layer.specs.declared.Layer.{Layer}
use Rattle.layer.specs.Held.{Memory, room_of, fits, Seen, seen, front, onto}
use Rattle.layer.specs.State.{valid}
use Rattle.layer.proofs.Fitting.{fit}
use Rattle.layer.proofs.Standing.{parts}
use Rattle.layer.proofs.Keeping.{Lengths}

-- parts within the room
pub record Sized (v : Seen) : Type 0 where
  pub lengths : Lengths v
  pub room : fits v.layer.used v.room ≡ true

pub take_front : (n : ℕ) (p l : List ℕ) → length p ≡ n → take n (front p l) ≡ p
take_front n p l e = take_at p (drop (length p) l) n e

pub length_front : (p l : List ℕ) → length p ≤ length l → length (front p l) ≡ length l
length_front p l h = length-append p (drop (length p) l) ∙ rw length-drop (omega arith)

module _ (t : Layer) (h : Memory) (m : Memory) (S : Sized (record { layer = t; held = h; room = room_of (length m.keys) (length m.values) (length m.texts) (length m.features) })) where
  pub seen_after_lem : seen t (onto h m) ≡ record { layer = t; held = h; room = room_of (length m.keys) (length m.values) (length m.texts) (length m.features) }
  seen_after_lem =
      let L = S.lengths in
      let F = fit t.used (length m.keys) (length m.values) (length m.texts) (length m.features) S.room in
      let a = take_front (t.used.keys * 2) h.keys m.keys L.keys in
      let b = take_front (t.used.values * 3) h.values m.values L.values in
      let c = take_front t.used.texts h.texts m.texts L.texts in
      let d = take_front t.used.features h.features m.features L.features in
      let w = length_front h.keys m.keys (omega (arith, L.keys, F.in_keys)) in
      let x = length_front h.values m.values (omega (arith, L.values, F.in_values)) in
      let y = length_front h.texts m.texts (omega (arith, L.texts, F.in_texts)) in
      let z = length_front h.features m.features (omega (arith, L.features, F.in_features)) in
      rw (a, b, c, d, w, x, y, z)

pub seen_lengths : (s : Layer) (m : Memory) → valid (seen s m) ≡ true → Lengths (seen s m)
seen_lengths s m e =
    let F = fit s.used (length m.keys) (length m.values) (length m.texts) (length m.features) (parts (seen s m) e).room in
    record {
      keys = length-take-le (s.used.keys * 2) m.keys F.in_keys;
      values = length-take-le (s.used.values * 3) m.values F.in_values;
      texts = length-take-le s.used.texts m.texts F.in_texts;
      features = length-take-le s.used.features m.features F.in_features;
    }
