-- With two entries for each raw point, the job with edges is the whole job: the same answer and the same words (`same_job`).
use mathlib.Core.Path.{◌≡◌, refl, ap}
use mathlib.Core.Bool.{Bool, true, false, cond}
use mathlib.Core.List.{List, [], ◌∷◌, ◌++◌}
use Prim.Native.Nat.{ℕ, suc, ◌+◌, ◌-◌, ◌*◌, ◌/◌, ◌≤◌, min}
use native.Mathlib.Omega.{arith}
use borrow.Author.Tests.{le-leb}
use lib.Dec.{eqb}
use lib.IntN.{ℤ}
use lib.ListN.{length, drop, length-take}
use Rattle.promise.specs.Answers.{Written, kept}
use Rattle.promise.specs.Laid.{lay}
use Rattle.promise.proofs.Laying.{length_lay}
use Rattle.refusal.specs.declared.Refusal.TheVariants.{Job, Kind, Box}
use Rattle.refusal.specs.Said.{Said, refused}
use Rattle.clip.specs.declared.Pt.{Pt}
use Rattle.clip.specs.declared.BBox.{BBox}
use Rattle.clip.specs.Domain.{is_good}
use Rattle.words.specs.Geometries.{is_kind}
use Rattle.encoder.specs.declared.GeomEncoder.{GeomEncoder}
use Rattle.encoder.specs.States.{fresh}
use Rattle.encoder.specs.Adding.{added, edges}
use Rattle.encoder.specs.Completing.{completed}
use Rattle.encoder.specs.Calls.{Call, add, complete, part_calls}
use Rattle.encoder.specs.Jobs.{points_of, ends_at, is_job, part, job_calls, outcome, encoded_job, go as plainGo, run as plainRun}
use Rattle.encoder.proofs.Turns.{ends_more, ends_le}
use Rattle.encoder.proofs.Whole.{good_ends}
use Rattle.edge_job.specs.EdgeJobs.{Lists, entries, noted, with_entries, edged, ended, go, run, edge_job}

-- the same answer, and the same words
pub record Same {A : Type 0} (w : Written A Lists) (v : Written A (List ℕ)) : Type 0 where
  pub answer : w.answer ≡ v.answer
  pub words : w.memory.words ≡ v.memory

by_test : {A : Type 0} (b : Bool) {w x : Written A Lists} {v y : Written A (List ℕ)} → Same w v → Same x y → Same (cond b w x) (cond b v y)
by_test true s t = s
by_test false s t = t

-- ---- calls, with entries for each point that they add
abbrev pub adds : List Call → ℕ
adds [] = 0
adds (add p ∷ cs) = suc (adds cs)
adds (complete ∷ cs) = adds cs

noted_long : (s : GeomEncoder) (p : Pt) (k i : ℕ) (l : List ℕ) → 2 * i + 2 ≤ length l → length (noted s p k i l) ≡ length l
noted_long s p k i l h = by (eqb k 0)
  where
    by : (b : Bool) → length (cond b (lay (2 * i) (entries (edges s p)) l) l) ≡ length l
    by true = length_lay (2 * i) (entries (edges s p)) l h
    by false = refl

roomy : (s : GeomEncoder) (p : Pt) (i : ℕ) (m : Lists) → 2 * i + 2 ≤ length m.edges → edged s p i m ≡ with_entries s p i m
unfolding edged
roomy s p i m h = rw (le-leb (2 * i + 2) (length m.edges) h) refl

pub same_calls : (cs : List Call) (n : ℕ) (s : GeomEncoder) (m : Lists) → 2 * (n + adds cs) ≤ length m.edges → Same (go cs n s m) (plainGo cs n s m.words)
same_calls [] n s m h = record { answer = refl; words = refl }
same_calls (complete ∷ cs) n s m h =
    by_test (eqb (completed s m.words).answer.number 0)
    (same_calls cs n (completed s m.words).answer.values.state (ended s m).memory h)
    (record { answer = refl; words = refl })
same_calls (add p ∷ cs) n s m h =
    let w = added s p m.words in
    let f : 2 * n + 2 ≤ length m.edges = omega arith in
    let g = noted_long s p w.answer.number n m.edges f in
    rw (roomy s p n m f)
    (by_test (eqb w.answer.number 0)
    (same_calls cs (n + 1) w.answer.values.state (with_entries s p n m).memory (omega arith))
    (record { answer = refl; words = refl }))

-- ---- a job's calls add its points
adds_then : (cs ds : List Call) → adds (cs ++ ds) ≡ adds cs + adds ds
adds_then [] ds = omega arith
adds_then (add p ∷ cs) ds = omega (arith, adds_then cs ds)
adds_then (complete ∷ cs) ds = adds_then cs ds

adds_part : (ps : List Pt) → adds (part_calls ps) ≡ length ps
adds_part [] = refl
adds_part (p ∷ ps) = ap suc (adds_part ps)

adds_job : (ps : List Pt) (from : ℕ) (ends : List ℕ) (n : ℕ) → ends_at from ends n ≡ true → from + adds (job_calls ps from ends) ≤ n
adds_job ps from [] n e = omega (arith, ends_le from [] n e)
adds_job ps from (x ∷ es) n e =
    let (h, k) = ends_more from x es n e in
    let rest = adds_job ps x es n k in
    let here : length (part ps from x) ≡ min (x - from) (length (drop from ps)) = length-take (x - from) (drop from ps) in
    omega (arith, adds_then (part_calls (part ps from x)) (job_calls ps x es), adds_part (part ps from x))

-- ---- the whole job
module _ (kind : ℕ) (bbox : BBox) (points : List ℤ) (ends : List ℕ) (m : Lists) (h : 2 * (length points / 2) ≤ length m.edges) where
  same_run : is_job points ends ≡ true → Same (run (job_calls (points_of points) 0 ends) (fresh kind bbox) m) (plainRun (job_calls (points_of points) 0 ends) (fresh kind bbox) m.words)
  same_run e =
      let cs = job_calls (points_of points) 0 ends in
      let a = adds_job (points_of points) 0 ends (length points / 2) (good_ends points ends e) in
      let s = same_calls cs 0 (fresh kind bbox) m (omega arith) in
      record { answer = ap outcome s.answer; words = s.words }

  pub same_job : Same (edge_job kind bbox points ends m) (encoded_job kind bbox points ends m.words)
  unfolding edge_job encoded_job
  same_job = by (is_job points ends) refl
    where
      none : {a : Said ℕ} → Same (kept a m) (kept a m.words)
      none = record { answer = refl; words = refl }

      by : (b : Bool) → is_job points ends ≡ b →
          Same (cond b (cond (is_kind kind) (cond (is_good bbox) (run (job_calls (points_of points) 0 ends) (fresh kind bbox) m) (kept (refused Box 0) m)) (kept (refused Kind 0) m)) (kept (refused Job 0) m))
          (cond b (cond (is_kind kind) (cond (is_good bbox) (plainRun (job_calls (points_of points) 0 ends) (fresh kind bbox) m.words) (kept (refused Box 0) m.words)) (kept (refused Kind 0) m.words)) (kept (refused Job 0) m.words))
      by true e = by_test (is_kind kind) (by_test (is_good bbox) (same_run e) none) none
      by false e = none
