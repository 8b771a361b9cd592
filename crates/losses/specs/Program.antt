-- What the program prints for a file: document 02, request (ix), put together from what its parts say.
use Rattle.std.specs.Prelude.{ℕ, ◌+◌, ◌-◌, cond, List, eqb, take}
use Rattle.promise.specs.Answers.{Written}
use Rattle.refusal.specs.Said.{Said}
use Rattle.encoder.specs.declared.tally.Tally.{Tally}
use Rattle.encoder.specs.Jobs.{Outcome, on, off}
use Rattle.number_file.specs.Numbers.{reading}
use Rattle.printed.specs.Printed.{refused_text}
use Rattle.printed.specs.Losses.{losses_text}
use Rattle.job_file.specs.JobFile.{job_file_finished}

-- "Taken plus boundary equals vertices now in the words plus skipped plus taken out" (`equation` of counted); an accepted job has lost no more points than it
-- was given (`file_balanced` of job_file), so nothing is cut off at zero
abbrev pub vertices_of : Tally → ℕ
vertices_of t = t.taken + t.boundary - t.skipped - t.taken_out

abbrev pub tally_text : Tally → List ℕ
tally_text t = losses_text t.taken t.boundary t.skipped t.taken_out (vertices_of t)

-- a whole job's outcome: the counts of the state behind its last call, or `refused R at P`
abbrev pub outcome_text : Outcome → List ℕ
outcome_text (on n s) = tally_text s.tally
outcome_text (off a) = refused_text a.number a.values

-- the file's numbers are read, and where that is accepted they are taken for a job; a file that is refused has no accepted points
abbrev pub file_text : Written (Said ℕ) (List ℕ) → List ℕ → List ℕ
file_text n words =
    cond (eqb n.answer.number 0) (outcome_text (job_file_finished (take n.answer.values n.memory) words).answer)
    (refused_text n.answer.number 0)

unfoldable pub printed : List ℕ → List ℕ → List ℕ → List ℕ
printed file numbers words = file_text (reading file numbers) words
