-- A run that is laid part by part from a place of a lent list on: so much of it is laid, the rest is left.
--     onward_start onward_turn onward_one onward_end    nothing is laid; a part more, one number more; all of it
--     onward_room onward_long                           there is room for the rest, and the list's length stays
use Prim.Native.Nat.{ℕ, ◌+◌, ◌≤◌}
use mathlib.Core.Path.{◌≡◌, refl, sym, ap, ◌∙◌}
use mathlib.Core.List.{List, [], ◌∷◌, ◌++◌, append_assoc, append-nil}
use native.Mathlib.Omega.{arith}
use lib.ListN.{length, set, length-append}
use Rattle.promise.specs.Laid.{lay}
use Rattle.promise.proofs.Laying.{lay_nothing, length_lay, lay_next, lay_one}
use Rattle.reader.specs.Packed.{PutsAt}

pub record Onward (run : List ℕ) (from : ℕ) (out₀ out : List ℕ) (n : ℕ) (rest : List ℕ) : Type 0 where
  pub done : List ℕ
  pub parts : run ≡ done ++ rest
  pub fits : from + length run ≤ length out₀
  pub place : n ≡ from + length done
  pub laid : out ≡ lay from done out₀

pub onward_start : (run : List ℕ) (from : ℕ) (out : List ℕ) → from + length run ≤ length out → Onward run from out out from run
onward_start run from out h = record { done = []; parts = refl; fits = h; place = omega arith; laid = sym (lay_nothing from out) }

module _ {run : List ℕ} {from : ℕ} {out₀ out : List ℕ} {n : ℕ} {rest : List ℕ} (I : Onward run from out₀ out n rest) where
  total : length run ≡ length I.done + length rest
  total = ap length I.parts ∙ length-append I.done rest

  pub onward_long : length out ≡ length out₀
  onward_long = ap length I.laid ∙ length_lay from I.done out₀ (omega (arith, total, I.fits))

  pub onward_room : n + length rest ≤ length out
  onward_room = omega (arith, total, I.fits, I.place, onward_long)

  pub onward_end : rest ≡ [] → PutsAt from run out₀ n out
  onward_end e =
      let f : I.done ≡ run = sym (I.parts ∙ rw (e, append-nil) refl) in
      record { place = I.place ∙ ap (λ (l : List ℕ). from + length l) f; list = I.laid ∙ ap (λ (l : List ℕ). lay from l out₀) f }

  pub onward_turn : (part after : List ℕ) (m : ℕ) (l : List ℕ) → rest ≡ part ++ after → PutsAt n part out m l → Onward run from out₀ l m after
  onward_turn part after m l e p =
      record {
        done = I.done ++ part;
        parts = I.parts ∙ ap (λ (x : List ℕ). I.done ++ x) e ∙ sym (append_assoc I.done part after);
        fits = I.fits;
        place = p.place ∙ omega (arith, I.place, length-append I.done part);
        laid =
            p.list ∙ ap (λ (x : List ℕ). lay n part x) I.laid ∙ ap (λ (k : ℕ). lay k part (lay from I.done out₀)) I.place ∙
            lay_next from I.done part out₀ (omega (arith, total, I.fits));
      }

  pub onward_one : (a : ℕ) (after : List ℕ) → rest ≡ a ∷ after → Onward run from out₀ (set out n a) (n + 1) after
  onward_one a after e =
      onward_turn (a ∷ []) after (n + 1) (set out n a) e
      (record { place = refl; list = lay_one out n a (omega (arith, onward_room, ap length e)) })
