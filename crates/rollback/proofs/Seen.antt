-- What stands beyond the used figures never matters: what is seen after a call hangs on what is seen before it alone (`seen_next`, for every call), and
-- so do the answers of any run of calls (`same_used`) and what is seen after it (`same_after`).
use Prim.Native.Nat.{ℕ, ◌*◌, ◌≤◌}
use mathlib.Core.Path.{◌≡◌, refl, sym, ap, ◌∙◌}
use mathlib.Core.Bool.{Bool, true, false}
use mathlib.Core.List.{List, [], ◌∷◌}
use native.Mathlib.Omega.{arith}
use lib.ListN.{length, take, drop, length-append, length-drop}
use lib.Seq.{length-take-le, take_at}
use Rattle.refusal.specs.declared.Refusal.TheVariants.{State}
use Rattle.refusal.specs.Said.{Said, accepted, refused}
use Rattle.layer.specs.declared.Layer.{Layer}
use Rattle.layer.specs.Held.{Memory, Seen, seen, Change, refuses, holds, written, next}
use Rattle.layer.specs.State.{valid}
use Rattle.layer.proofs.Fitting.{within, fits_yes, fit}
use Rattle.layer.proofs.Standing.{parts}
use Rattle.rollback.specs.Runs.{Call, opens, marks, tags, closes, abandons, does, called, answers, layer_after, memory_after}
use Rattle.layer.proofs.Keeping.{Lengths, Fine, sound, by_check, by_open, opening_in}
use Rattle.layer.proofs.After.{Sized, seen_after_lem, seen_lengths}
use Rattle.rollback.proofs.Good.{All, good}

fine_sized : (x : Change) (v : Seen) → All Fine x v → All Sized x v
fine_sized (refuses r) v f = tt
fine_sized (holds t h) v f = record { lengths = f.lengths; room = (parts (next (holds t h) v) f.stands).room }

cut_sized : (v : Seen) → valid v ≡ true → Lengths v → All Sized (does abandons v) v
cut_sized v e L =
    by_check (λ (x : Change). All Sized x v) (valid v) State _ tt (λ e₂.
    by_open (λ (x : Change). All Sized x v) v.layer.feature _ tt (λ o f.
    let W = opening_in v (sound v e L) o f in
    let R = within v.layer.used v.room (parts v e).room in
    record {
      lengths = record {
        keys = length-take-le (o.keys * 2) v.held.keys (omega (arith, W.keys, L.keys));
        values = length-take-le (o.values * 3) v.held.values (omega (arith, W.values, L.values));
        texts = length-take-le o.texts v.held.texts (omega (arith, W.texts, L.texts));
        features = length-take-le o.features v.held.features (omega (arith, W.features, L.features));
      };
      room = fits_yes o v.room (record { keys = omega (arith, W.keys, R.keys); values = omega (arith, W.values, R.values); texts = omega (arith, W.texts, R.texts); features = omega (arith, W.features, R.features) });
    }))

pub sized : (c : Call) (v : Seen) → (valid v ≡ true → Lengths v) → All Sized (does c v) v
sized (opens kind words) v L = fine_sized (does (opens kind words) v) v (good (opens kind words) v L (λ e. let z : ◌≡◌ {A = ℕ} 0 1 = cc in omega arith))
sized (marks low high) v L = fine_sized (does (marks low high) v) v (good (marks low high) v L (λ e. let z : ◌≡◌ {A = ℕ} 0 1 = cc in omega arith))
sized (tags t g) v L = fine_sized (does (tags t g) v) v (good (tags t g) v L (λ e. let z : ◌≡◌ {A = ℕ} 0 1 = cc in omega arith))
sized closes v L = fine_sized (does closes v) v (good closes v L (λ e. let z : ◌≡◌ {A = ℕ} 0 1 = cc in omega arith))
sized abandons v L = by (valid v) refl
  where
    by : (b : Bool) → valid v ≡ b → All Sized (does abandons v) v
    by true e = cut_sized v e (L e)
    by false e = rw e tt

pub seen_change : (x : Change) (s : Layer) (m : Memory) → All Sized x (seen s m) → seen (written x s m).answer.values (written x s m).memory ≡ next x (seen s m)
seen_change (refuses r) s m S = refl
seen_change (holds t h) s m S = seen_after_lem t h m S

pub seen_next : (c : Call) (s : Layer) (m : Memory) → seen (called c s m).answer.values (called c s m).memory ≡ next (does c (seen s m)) (seen s m)
seen_next c s m = seen_change (does c (seen s m)) s m (sized c (seen s m) (seen_lengths s m))

-- ---- runs of calls, with no memory at all
abbrev pub answer_of : Change → Layer → Said Layer
answer_of (refuses r) s = refused r s
answer_of (holds t h) s = accepted t

abbrev pub replies : List Call → Seen → List (Said Layer)
replies [] v = []
replies (c ∷ cs) v = answer_of (does c v) v.layer ∷ replies cs (next (does c v) v)

abbrev pub seen_after : List Call → Seen → Seen
seen_after [] v = v
seen_after (c ∷ cs) v = seen_after cs (next (does c v) v)

pub answer_is : (x : Change) (s : Layer) (m : Memory) → (written x s m).answer ≡ answer_of x s
answer_is (refuses r) s m = refl
answer_is (holds t h) s m = refl

pub answers_seen : (cs : List Call) (s : Layer) (m : Memory) → answers cs s m ≡ replies cs (seen s m)
answers_seen [] s m = refl
answers_seen (c ∷ cs) s m =
    let a = answer_is (does c (seen s m)) s m in
    let b = answers_seen cs (called c s m).answer.values (called c s m).memory ∙ ap (replies cs) (seen_next c s m) in
    ap (λ (x : Said Layer). x ∷ answers cs (called c s m).answer.values (called c s m).memory) a
    ∙ ap (λ (l : List (Said Layer)). answer_of (does c (seen s m)) s ∷ l) b

pub after_seen : (cs : List Call) (s : Layer) (m : Memory) → seen (layer_after cs s m) (memory_after cs s m) ≡ seen_after cs (seen s m)
after_seen [] s m = refl
after_seen (c ∷ cs) s m = after_seen cs (called c s m).answer.values (called c s m).memory ∙ ap (seen_after cs) (seen_next c s m)

-- two memories that agree on the used parts: the same answers, and memories that agree on the used parts
module _ (cs : List Call) (s s₂ : Layer) (m m₂ : Memory) (e : seen s m ≡ seen s₂ m₂) where
  pub same_used : answers cs s m ≡ answers cs s₂ m₂
  same_used = answers_seen cs s m ∙ ap (replies cs) e ∙ sym (answers_seen cs s₂ m₂)

  pub same_after : seen (layer_after cs s m) (memory_after cs s m) ≡ seen (layer_after cs s₂ m₂) (memory_after cs s₂ m₂)
  same_after = after_seen cs s m ∙ ap (seen_after cs) e ∙ sym (after_seen cs s₂ m₂)
