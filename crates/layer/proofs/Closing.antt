-- `into_layer`, `abandoned` and `set_id` where they are not refused.
use Prim.Native.Nat.{ℕ, ◌+◌, ◌*◌, ◌≤◌}
use mathlib.Core.Path.{◌≡◌, refl, sym}
use mathlib.Core.Bool.{Bool, true, false, not}
use mathlib.Core.List.{List, [], ◌∷◌}
use native.Mathlib.Omega.{arith}
use lib.ListN.{length}
use Rattle.promise.specs.Answers.{Gives}
use Rattle.runs.specs.Fitting.{laid_in}
use Rattle.runs.proofs.Laws.{laid_fits}
use Rattle.layer.specs.declared.Figures.{Figures}
use Rattle.std.specs.Prelude.{Some, None, Ok}
use Rattle.layer.specs.declared.Layer.{Layer}
use Rattle.layer.specs.Held.{mem, seen, written}
use Rattle.layer.specs.Answers.{said_changed}
use Rattle.layer.specs.State.{valid}
use Rattle.layer.specs.Calls.{with_used, set_id, into_layer, abandoned}
use Rattle.layer.proofs.Fitting.{Fit}
use Rattle.layer.proofs.Fronts.{front_take, front_lay, held_onto, cut_onto}
use Rattle.layer.proofs.Standing.{answered, valid_fit, OpenAt, open_at}

module _ (s : Layer) (ks vs ts fs : List ℕ) (t : Bool) (g : t ≡ valid (seen s (mem ks vs ts fs))) (h : not t ≡ false) (o : Figures) (f : s.feature ≡ Some o) where
  ok : valid (seen s (mem ks vs ts fs)) ≡ true
  ok = answered t (valid (seen s (mem ks vs ts fs))) g h

  opening : OpenAt o s.used fs
  opening = open_at s o ks vs ts fs ok f

  pub fitting : Fit s.used (length ks) (length vs) (length ts) (length fs)
  fitting = valid_fit s ks vs ts fs ok

  pub closed : Gives (written (into_layer (seen s (mem ks vs ts fs))) s (mem ks vs ts fs)) (said_changed (Ok (with_used s s.used None))) (mem ks vs ts fs)
  closed = rw (ok, f) (record { answer = refl; memory = sym (held_onto s.used ks vs ts fs fitting) })

  pub cut_back : Gives (written (abandoned (seen s (mem ks vs ts fs))) s (mem ks vs ts fs)) (said_changed (Ok (with_used s o None))) (mem ks vs ts fs)
  cut_back = rw (ok, f) (record { answer = refl; memory = sym (cut_onto o s.used ks vs ts fs fitting opening.within) })

  -- ---- `set_id`
  pub id_there : o.features + 6 ≤ s.used.features
  id_there = omega (arith, opening.six)

  pub id_set : (low high a b : ℕ) → a ≡ low → b ≡ high → (fs₂ : List ℕ) → fs₂ ≡ laid_in (o.features + 1) (1 ∷ a ∷ b ∷ []) fs → Gives (written (set_id low high (seen s (mem ks vs ts fs))) s (mem ks vs ts fs)) (said_changed (Ok s)) (mem ks vs ts fs₂)
  id_set low high a b x y fs₂ e =
      let F = fitting in
      let k = front_lay s.used.features (o.features + 1) (1 ∷ low ∷ high ∷ []) fs F.in_features (omega (arith, id_there)) in
      let w = laid_fits (o.features + 1) (1 ∷ a ∷ b ∷ []) fs (omega (arith, id_there, F.in_features)) fs₂ e in
      rw (ok, f)
      (record {
        answer = refl;
        memory = rw (front_take (s.used.keys * 2) ks F.in_keys, front_take (s.used.values * 3) vs F.in_values, front_take s.used.texts ts F.in_texts, k, w, x, y);
      })
