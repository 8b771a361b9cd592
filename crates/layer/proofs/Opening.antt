-- `opened` at each return of `put_record`, and `created` at each of `Layer::new`.
use Prim.Native.Nat.{ℕ, ◌+◌, ◌*◌, ◌/◌, ◌%◌, ◌≤◌, ◌<◌}
use mathlib.Core.Path.{◌≡◌, refl, sym, ap, ◌∙◌}
use mathlib.Core.Bool.{Bool, true, false, not}
use mathlib.Core.List.{List, [], ◌∷◌}
use native.Mathlib.Omega.{arith}
use lib.ListN.{length}
use lib.Dec.{leb}
use borrow.Author.Tests.{not-true, not-false, le-leb, lt-leb}
use Rattle.promise.specs.Answers.{Gives}
use Rattle.promise.specs.Laid.{lay}
use Rattle.promise.proofs.Laying.{length_lay, lay_next}
use Rattle.words.specs.Geometries.{max_words}
use Rattle.runs.specs.Fitting.{laid_in}
use Rattle.runs.proofs.Laws.{laid_fits}
use Rattle.refusal.specs.declared.Refusal.TheVariants.{Room, Text as TextRefusal, Utf8}
use Rattle.table.specs.Texts.{short_text}
use Rattle.utf8.specs.Utf8.{is_utf8}
use Rattle.std.specs.Prelude.{Some, Ok, Err}
use Rattle.layer.specs.declared.Layer.{Layer}
use Rattle.layer.specs.Held.{mem, smaller, room_of, fits, seen, written, max_texts}
use Rattle.layer.specs.Answers.{said_changed, said_created}
use Rattle.layer.specs.Calls.{more_words, with_used, record_with, new_record, opened, new_layer, created}
use Rattle.layer.proofs.Fitting.{Fit, fit, smaller_le}
use Rattle.layer.proofs.Fronts.{front_take, front_run}

pub open_many : (s : Layer) (kind : ℕ) (words ks vs ts fs : List ℕ) → max_words < length words → Gives (written (opened kind words (seen s (mem ks vs ts fs))) s (mem ks vs ts fs)) (said_changed (Err (record { refusal = Room; kept = s }))) (mem ks vs ts fs)
open_many s kind words ks vs ts fs h = rw (lt-leb (length words) max_words h) (record { answer = refl; memory = refl })

module _ (s : Layer) (kind : ℕ) (words ks vs ts fs : List ℕ) (few : length words ≤ max_words) where
  may : leb (length words) max_words ≡ true
  may = le-leb (length words) max_words few

  module _ (q : Bool) (w : q ≡ fits (more_words s.used (6 + length words)) (room_of (length ks) (length vs) (length ts) (length fs))) where
    pub open_full : not q ≡ true → Gives (written (opened kind words (seen s (mem ks vs ts fs))) s (mem ks vs ts fs)) (said_changed (Err (record { refusal = Room; kept = s }))) (mem ks vs ts fs)
    open_full n = rw (may, ← w, not-true q n) (record { answer = refl; memory = refl })

    pub open_fit : not q ≡ false → Fit (more_words s.used (6 + length words)) (length ks) (length vs) (length ts) (length fs)
    open_fit n = fit (more_words s.used (6 + length words)) (length ks) (length vs) (length ts) (length fs) (sym w ∙ not-false q n)

    pub open_done : not q ≡ false → (fs₂ : List ℕ) → fs₂ ≡ lay s.used.features (new_record kind words) fs → Gives (written (opened kind words (seen s (mem ks vs ts fs))) s (mem ks vs ts fs)) (said_changed (Ok (with_used s (more_words s.used (6 + length words)) (Some s.used)))) (mem ks vs ts fs₂)
    open_done n fs₂ e =
        let F = open_fit n in
        let c = front_run s.used.features fs (omega (arith, F.in_features)) (new_record kind words) in
        rw (may, ← w, not-false q n)
        (record {
          answer = refl;
          memory = rw (front_take (s.used.keys * 2) ks F.in_keys, front_take (s.used.values * 3) vs F.in_values, front_take s.used.texts ts F.in_texts, c, e);
        })

-- ---- `lay_record`: the six words and then the geometry are the record
module _ (at kind mark id : ℕ) (words fs : List ℕ) (a b n : ℕ) (x : a ≡ id % 4294967296) (y : b ≡ id / 4294967296) (z : n ≡ length words) where
  pub record_laid : at + (6 + length words) ≤ length fs → (fs₁ fs₂ : List ℕ) → fs₁ ≡ laid_in at (kind ∷ mark ∷ a ∷ b ∷ 0 ∷ n ∷ []) fs → fs₂ ≡ laid_in (at + 6) words fs₁ → fs₂ ≡ lay at (record_with kind mark id words) fs
  record_laid h fs₁ fs₂ p q =
      let u = laid_fits at (kind ∷ mark ∷ a ∷ b ∷ 0 ∷ n ∷ []) fs (omega arith) fs₁ p in
      let l : length fs₁ ≡ length fs = ap length u ∙ length_lay at (kind ∷ mark ∷ a ∷ b ∷ 0 ∷ n ∷ []) fs (omega arith) in
      let v = laid_fits (at + 6) words fs₁ (omega (arith, l)) fs₂ q in
      let k = lay_next at (kind ∷ mark ∷ a ∷ b ∷ 0 ∷ n ∷ []) words fs (omega arith) in
      v ∙ ap (lay (at + 6) words) u ∙ k ∙ rw (x, y, z)

-- ---- `Layer::new`
module _ (name : List ℕ) (extent : ℕ) (ts : List ℕ) (t : Bool) (g : t ≡ short_text (length name)) where
  pub name_long : not t ≡ true → Gives (created name extent ts) (said_created (Err TextRefusal)) ts
  name_long h = rw (← g, not-true t h) (record { answer = refl; memory = refl })

  module _ (h : not t ≡ false) (u : Bool) (k : u ≡ is_utf8 name) where
    pub name_ill : not u ≡ true → Gives (created name extent ts) (said_created (Err Utf8)) ts
    name_ill i = rw (← g, not-false t h, ← k, not-true u i) (record { answer = refl; memory = refl })

    module _ (i : not u ≡ false) (n : ℕ) (e : n ≡ smaller (length ts) max_texts) where
      pub name_full : n < length name → Gives (created name extent ts) (said_created (Err Room)) ts
      name_full l = rw (← g, not-false t h, ← k, not-false u i, ← e, lt-leb _ _ l) (record { answer = refl; memory = refl })

      name_fits : length name ≤ n → 0 + length name ≤ length ts
      name_fits l = omega (arith, smaller_le (length ts) max_texts)

      pub name_done : length name ≤ n → (ts₂ : List ℕ) → ts₂ ≡ laid_in 0 name ts → Gives (created name extent ts) (said_created (Ok (new_layer name extent))) ts₂
      name_done l ts₂ p = rw (← g, not-false t h, ← k, not-false u i, ← e, le-leb _ _ l) (record { answer = refl; memory = laid_fits 0 name ts (name_fits l) ts₂ p })
