-- A whole job's answer as three numbers: the refusal's number, the accepted points, the words used. An accepted job has accepted all n points; a refused
-- one says no words. And the same job with the state that it ends in.
use Rattle.std.specs.Prelude.{ℕ, ◌/◌, cond, List, eqb, ℤ, length}
use Rattle.promise.specs.Answers.{Written}
use Rattle.refusal.specs.Said.{Said}
use Rattle.clip.specs.Numbers.{box_at}
use Rattle.encoder.specs.Jobs.{Outcome, on, off, encoded_job, finished_job}
use Rattle.edge_job.specs.EdgeJobs.{Lists, edge_job}
use Rattle.telling.specs.Telling.{told}
use Rattle.brinepost.specs.declared.work.BpJob.{BpJob}
use Rattle.brinepost.specs.declared.finished.BpFinished.{BpFinished}
use Rattle.brinepost.specs.Carried.{state_to, nothing}

unfoldable pub flat_job : ℕ → Said ℕ → BpJob
flat_job n a =
    cond (eqb a.number 0)
    (record { refusal = 0; points = n; words = a.values })
    (record { refusal = a.number; points = a.values; words = 0 })

-- the whole job of these points and part ends, told to C
abbrev pub job_from : ℕ → ℤ → ℤ → ℤ → ℤ → List ℤ → List ℕ → List ℕ → Written BpJob (List ℕ)
job_from kind left right bottom top points ends out =
    told (flat_job (length points / 2)) (encoded_job kind (box_at left right bottom top) points ends out)

-- the same with its edges, of the two lists that it writes
abbrev pub edge_job_from : ℕ → ℤ → ℤ → ℤ → ℤ → List ℤ → List ℕ → Lists → Written BpJob Lists
edge_job_from kind left right bottom top points ends m =
    told (flat_job (length points / 2)) (edge_job kind (box_at left right bottom top) points ends m)

-- the refusal's number, the accepted points as the job's, and the state behind the last call, or every number 0 where one was refused
unfoldable pub flat_finished : ℕ → Outcome → BpFinished
flat_finished n (on taken s) = record { refusal = 0; points = n; state = state_to s }
flat_finished n (off a) = record { refusal = a.number; points = a.values; state = nothing }

-- the same job with its state; its answer has that of `job_from` (`same_job` of proofs/SameJob)
abbrev pub finished_from : ℕ → ℤ → ℤ → ℤ → ℤ → List ℤ → List ℕ → List ℕ → Written BpFinished (List ℕ)
finished_from kind left right bottom top points ends out =
    told (flat_finished (length points / 2)) (finished_job kind (box_at left right bottom top) points ends out)
