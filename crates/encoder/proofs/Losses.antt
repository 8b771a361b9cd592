-- The state behind an accepted whole job: it is what its calls, each accepted, lead to from a fresh state; and it is sound, so of its counts no more points are lost than were given.
--     went              an accepted job passed its checks, and its calls went on to that state
--     go_after          calls that go on are accepted one after the other
--     finished_after finished_sound finished_balanced
use mathlib.Core.Path.{◌≡◌, refl, subst}
use mathlib.Core.Bool.{Bool, true, false, cond}
use mathlib.Core.List.{List, [], ◌∷◌}
use Prim.Native.Nat.{ℕ, ◌+◌, ◌≤◌}
use borrow.Author.Tests.{eqb-true}
use lib.Dec.{eqb}
use lib.IntN.{ℤ}
use lib.ListN.{length}
use Rattle.promise.specs.Answers.{Written, kept}
use Rattle.refusal.specs.declared.Refusal.TheVariants.{Job, Kind, Box}
use Rattle.refusal.specs.Said.{refused}
use Rattle.clip.specs.declared.BBox.{BBox}
use Rattle.clip.specs.Domain.{is_good}
use Rattle.words.specs.Geometries.{is_kind}
use Rattle.encoder.specs.declared.GeomEncoder.{GeomEncoder}
use Rattle.encoder.specs.States.{fresh, Sound}
use Rattle.encoder.specs.Calls.{Call, call, After, none, next}
use Rattle.encoder.specs.Jobs.{Outcome, on, off, taken, stopped, go, is_job, go_all, points_of, job_calls, finished_job}
use Rattle.encoder.proofs.Reached.{fresh_sound}
use Rattle.encoder.proofs.Courses.{never_on, same_state}
use Rattle.encoder.proofs.Within.{call_done, go_sound}

pub go_after : (cs : List Call) (n : ℕ) (s : GeomEncoder) (out : List ℕ) (m : ℕ) (t : GeomEncoder) → (go cs n s out).answer ≡ on m t → After cs s out t (go cs n s out).memory
go_after [] n s out m t e = subst (λ (x : GeomEncoder). After [] s out x out) (same_state e) none
go_after (c ∷ cs) n s out m t e =
    by (eqb (call c s out).answer.number 0) refl (go_after cs (taken c n) (call c s out).answer.values.state (call c s out).memory m t) e
  where
    by : (b : Bool) → eqb (call c s out).answer.number 0 ≡ b
        → ((go cs (taken c n) (call c s out).answer.values.state (call c s out).memory).answer ≡ on m t
        → After cs (call c s out).answer.values.state (call c s out).memory t (go cs (taken c n) (call c s out).answer.values.state (call c s out).memory).memory)
        → (cond b (go cs (taken c n) (call c s out).answer.values.state (call c s out).memory) (kept (off (stopped n (call c s out).answer)) out)).answer ≡ on m t
        → After (c ∷ cs) s out t (cond b (go cs (taken c n) (call c s out).answer.values.state (call c s out).memory) (kept (off (stopped n (call c s out).answer)) out)).memory
    by true f r g = next (call_done c s out (eqb-true (call c s out).answer.number 0 f)) (r g)
    by false f r g = absurd (never_on g)

module _ (kind : ℕ) (bbox : BBox) (points : List ℤ) (ends out : List ℕ) (n : ℕ) (s : GeomEncoder) where
  record Went (w : Written Outcome (List ℕ)) : Type 0 where
    pub known : is_kind kind ≡ true
    pub good : is_good bbox ≡ true
    pub answer : (go_all points ends (fresh kind bbox) out).answer ≡ on n s
    pub memory : w.memory ≡ (go_all points ends (fresh kind bbox) out).memory

  module _ (e : (finished_job kind bbox points ends out).answer ≡ on n s) where
    went : Went (finished_job kind bbox points ends out)
    unfolding finished_job
    went = by (is_job points ends) (is_kind kind) (is_good bbox) refl refl e
      where
        by : (a b c : Bool) → is_kind kind ≡ b → is_good bbox ≡ c →
            (cond a (cond b (cond c (go_all points ends (fresh kind bbox) out) (kept (off (refused Box 0)) out)) (kept (off (refused Kind 0)) out)) (kept (off (refused Job 0)) out)).answer ≡ on n s →
            Went (cond a (cond b (cond c (go_all points ends (fresh kind bbox) out) (kept (off (refused Box 0)) out)) (kept (off (refused Kind 0)) out)) (kept (off (refused Job 0)) out))
        by true true true f g h = record { known = f; good = g; answer = h; memory = refl }
        by true true false f g h = absurd (never_on h)
        by true false c f g h = absurd (never_on h)
        by false b c f g h = absurd (never_on h)

    pub finished_after : After (job_calls (points_of points) 0 ends) (fresh kind bbox) out s (finished_job kind bbox points ends out).memory
    finished_after = rw went.memory (go_after (job_calls (points_of points) 0 ends) 0 (fresh kind bbox) out n s went.answer)

    pub finished_sound : Sound s (length (finished_job kind bbox points ends out).memory)
    finished_sound = rw went.memory (go_sound (job_calls (points_of points) 0 ends) 0 (fresh kind bbox) out (fresh_sound kind bbox (length out) went.known went.good) n s went.answer)

    pub finished_balanced : s.tally.skipped + s.tally.taken_out ≤ s.tally.taken + s.tally.boundary
    finished_balanced = finished_sound.valid.balanced
