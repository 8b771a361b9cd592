-- Every accepted call but abandoning gives a layer that breaks no rule of STATE, and parts as long as its figures say: `good`. Abandoning gives what was
-- held at opening; of a layer as calls make it, that breaks no rule either (proofs/Rolled).
use Prim.Native.Nat.{ℕ, ◌+◌}
use mathlib.Core.Path.{◌≡◌, refl}
use mathlib.Core.Bool.{true}
use mathlib.Core.List.{List, [], ◌∷◌, ◌++◌}
use lib.ListN.{length}
use lib.Dec.{leb}
use Rattle.promise.specs.Laid.{lay}
use Rattle.refusal.specs.declared.Refusal.TheVariants.{Kind, State, Room, Turn}
use Rattle.words.specs.Geometries.{is_kind, max_words}
use Rattle.layer.specs.declared.Figures.{Figures}
use Rattle.std.specs.Prelude.{Some, None}
use Rattle.layer.specs.Held.{Seen, Change, refuses, holds, fits, next}
use Rattle.layer.specs.State.{valid}
use Rattle.layer.specs.Calls.{is_shut, more_words, with_used, with_features, new_record, Tag, is_value, key_found, value_found, tag_put}
use Rattle.layer.proofs.Standing.{parts}
use Rattle.layer.proofs.Keeping.{Lengths, Fine, sound, fine, by_check, by_open, is_shut_lem, opened_sound, marked_sound, tag_sound, closed_sound}
use Rattle.layer.proofs.Checked.{by_tag}
use Rattle.rollback.specs.Runs.{Call, opens, marks, tags, closes, abandons, does}

-- of a change: nothing, where it refuses
abbrev pub All : (Seen → Type 0) → Change → Seen → Type 0
All P (refuses r) v = Unit {0}
All P (holds t h) v = P (next (holds t h) v)

-- what each step keeps, with its room
module _ (v : Seen) (L : Lengths v) (e : valid v ≡ true) where
  pub opened_fine : (kind : ℕ) (words : List ℕ) → is_kind kind ≡ true → v.layer.feature ≡ None → fits (more_words v.layer.used (6 + length words)) v.room ≡ true → Fine (next (holds (with_used v.layer (more_words v.layer.used (6 + length words)) (Some v.layer.used)) (with_features v.held (v.held.features ++ new_record kind words))) v)
  opened_fine kind words k f h = fine _ (opened_sound kind 0 0 words v (sound v e L) (rw k) f) h

  module _ (o : Figures) (f : v.layer.feature ≡ Some o) where
    pub closed_fine : Fine (next (holds (with_used v.layer v.layer.used None) v.held) v)
    closed_fine = fine _ (closed_sound v (sound v e L) o f) (parts v e).room

    pub marked_fine : (low high : ℕ) → Fine (next (holds v.layer (with_features v.held (lay (o.features + 1) (1 ∷ low ∷ high ∷ []) v.held.features))) v)
    marked_fine low high = fine _ (marked_sound v (sound v e L) o f low high) (parts v e).room

    pub tag_fine : (t : Tag) → is_value t.value ≡ true → fits (tag_put o t v).layer.used v.room ≡ true → Fine (tag_put o t v)
    tag_fine t g h = fine (tag_put o t v) (tag_sound v (sound v e L) o f t g (key_found t v) (value_found t v)) h

pub good : (c : Call) (v : Seen) → (valid v ≡ true → Lengths v) → (c ≡ abandons → ⊥) → All Fine (does c v) v
good (opens kind words) v L n =
    by_check (λ (x : Change). All Fine x v) (is_kind kind) Kind _ tt (λ k.
    by_check (λ (x : Change). All Fine x v) (valid v) State _ tt (λ e.
    by_check (λ (x : Change). All Fine x v) (is_shut v.layer.feature) Turn _ tt (λ f.
    by_check (λ (x : Change). All Fine x v) (leb (length words) max_words) Room _ tt (λ m.
    by_check (λ (x : Change). All Fine x v) (fits (more_words v.layer.used (6 + length words)) v.room) Room _ tt (λ h.
    opened_fine v (L e) e kind words k (is_shut_lem v.layer.feature f) h)))))
good (marks low high) v L n =
    by_check (λ (x : Change). All Fine x v) (valid v) State _ tt (λ e.
    by_open (λ (x : Change). All Fine x v) v.layer.feature _ tt (λ o f. marked_fine v (L e) e o f low high))
good (tags t g) v L n =
    by_tag (λ (x : Change). All Fine x v) t v (λ q n. tt) (λ e u o f a h. tag_fine v (L e) e o f t g h)
good closes v L n =
    by_check (λ (x : Change). All Fine x v) (valid v) State _ tt (λ e.
    by_open (λ (x : Change). All Fine x v) v.layer.feature _ tt (λ o f. closed_fine v (L e) e o f))
good abandons v L n = absurd (n refl)
