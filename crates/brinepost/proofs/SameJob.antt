-- A job with its state is the job: the same refusal, the same accepted points, as many words, and the list left the same (`same_job`).
use Prim.Native.Nat.{ℕ, ◌/◌}
use mathlib.Core.Path.{◌≡◌, refl}
use mathlib.Core.Bool.{Bool, true, false, not, cond}
use mathlib.Core.List.{List, [], ◌∷◌}
use borrow.Author.Tests.{not-true}
use lib.Dec.{eqb}
use lib.IntN.{ℤ}
use lib.ListN.{length}
use Rattle.promise.specs.Answers.{Written, kept}
use Rattle.refusal.specs.declared.Refusal.TheVariants.{Job, Kind, Box}
use Rattle.refusal.specs.Said.{Said, refused}
use Rattle.clip.specs.declared.BBox.{BBox}
use Rattle.clip.specs.Domain.{is_good}
use Rattle.clip.specs.Numbers.{box_at}
use Rattle.words.specs.Geometries.{is_kind}
use Rattle.encoder.specs.declared.GeomEncoder.{GeomEncoder}
use Rattle.encoder.specs.States.{fresh}
use Rattle.encoder.specs.Calls.{Call, call}
use Rattle.encoder.specs.Jobs.{points_of, is_job, job_calls, Outcome, on, off, taken, stopped, go, go_all, outcome, finished_job}
use Rattle.encoder.proofs.Whole.{encoded_finished}
use Rattle.telling.specs.Telling.{told}
use Rattle.brinepost.specs.declared.work.BpJob.{BpJob}
use Rattle.brinepost.specs.declared.finished.BpFinished.{BpFinished}
use Rattle.brinepost.specs.Carried.{state_to, nothing}
use Rattle.brinepost.specs.Works.{flat_job, flat_finished, job_from, finished_from}

-- the job's answer in that with the state
abbrev pub job_in : BpFinished → BpJob
job_in f = record { refusal = f.refusal; points = f.points; words = f.state.used }

-- ---- a job that stops has a refusal's number, and not the 0 of an accepted call
abbrev stops : Outcome → Bool
stops (on n s) = true
stops (off a) = not (eqb a.number 0)

-- one call in front of w, which answers a where it is refused
call_stops : (b : Bool) (w : Written Outcome (List ℕ)) (a : Said ℕ) (out : List ℕ) → stops w.answer ≡ true → eqb a.number 0 ≡ b → stops (cond b w (kept (off a) out)).answer ≡ true
call_stops true w a out h e = h
call_stops false w a out h e = rw e

calls_stop : (cs : List Call) (n : ℕ) (s : GeomEncoder) (out : List ℕ) → stops (go cs n s out).answer ≡ true
calls_stop [] n s out = refl
calls_stop (c ∷ cs) n s out =
    let a = call c s out in
    call_stops (eqb a.answer.number 0) (go cs (taken c n) a.answer.values.state a.memory) (stopped n a.answer) out
    (calls_stop cs (taken c n) a.answer.values.state a.memory) refl

job_stops : (kind : ℕ) (bbox : BBox) (points : List ℤ) (ends out : List ℕ) → stops (finished_job kind bbox points ends out).answer ≡ true
unfolding finished_job
job_stops kind bbox points ends out = by (is_job points ends) (is_kind kind) (is_good bbox)
  where
    by : (a b c : Bool) →
        stops (cond a (cond b (cond c (go_all points ends (fresh kind bbox) out) (kept (off (refused Box 0)) out)) (kept (off (refused Kind 0)) out)) (kept (off (refused Job 0)) out)).answer ≡ true
    by true true true = calls_stop (job_calls (points_of points) 0 ends) 0 (fresh kind bbox) out
    by true true false = refl
    by true false c = refl
    by false b c = refl

-- ---- told to C
told_same : (n : ℕ) (o : Outcome) → stops o ≡ true → flat_job n (outcome o) ≡ job_in (flat_finished n o)
unfolding flat_job flat_finished state_to nothing
told_same n (on taken s) h = refl
told_same n (off a) h = rw (not-true (eqb a.number 0) h)

pub same_job : (kind : ℕ) (left right bottom top : ℤ) (points : List ℤ) (ends out : List ℕ) →
    job_from kind left right bottom top points ends out ≡ told job_in (finished_from kind left right bottom top points ends out)
unfolding told
same_job kind left right bottom top points ends out =
    let w : Written Outcome (List ℕ) = finished_job kind (box_at left right bottom top) points ends out in
    let e = told_same (length points / 2) w.answer (job_stops kind (box_at left right bottom top) points ends out) in
    rw (encoded_finished kind (box_at left right bottom top) points ends out) (λ i. record { answer = e i; memory = w.memory })
