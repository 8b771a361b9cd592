-- What the program prints for a file: document 02, request (v), put together from what its parts say.
use Rattle.std.specs.Prelude.{ℕ, ◌*◌, cond, List, eqb, take}
use Rattle.promise.specs.Answers.{Written}
use Rattle.refusal.specs.Said.{Said}
use Rattle.edge_job.specs.EdgeJobs.{Lists, lists}
use Rattle.number_file.specs.Numbers.{reading}
use Rattle.printed.specs.Printed.{refused_text}
use Rattle.printed.specs.Pairs.{edges_text}
use Rattle.job_file.specs.JobFile.{point_count, job_file_edges}

-- a whole job's answer: two edges for each of its raw points, or `refused R at P`
abbrev pub job_text : ℕ → Written (Said ℕ) Lists → List ℕ
job_text points w = cond (eqb w.answer.number 0) (edges_text (take (2 * points) w.memory.edges)) (refused_text w.answer.number w.answer.values)

-- the file's numbers are read, and where that is accepted they are taken for a job; a file that is refused has no accepted points
abbrev pub taken_text : List ℕ → Lists → List ℕ
taken_text file m = job_text (point_count file) (job_file_edges file m)

abbrev pub file_text : Written (Said ℕ) (List ℕ) → Lists → List ℕ
file_text n m = cond (eqb n.answer.number 0) (taken_text (take n.answer.values n.memory) m) (refused_text n.answer.number 0)

unfoldable pub printed : List ℕ → List ℕ → List ℕ → List ℕ → List ℕ
printed file numbers words edges = file_text (reading file numbers) (lists words edges)
