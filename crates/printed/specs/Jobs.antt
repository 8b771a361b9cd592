-- What a program prints for a file that is a whole job, of whatever kind: document 01, "Job file" and the end of "Sample jobs". `taken` is what the file's
-- numbers are taken for.
use Rattle.std.specs.Prelude.{ℕ, cond, List, eqb, take}
use Rattle.promise.specs.Answers.{Written}
use Rattle.refusal.specs.Said.{Said}
use Rattle.printed.specs.Printed.{words_text, refused_text}

-- a whole job's answer: its words, or `refused R at P`
abbrev pub job_text : Written (Said ℕ) (List ℕ) → List ℕ
job_text w = cond (eqb w.answer.number 0) (words_text (take w.answer.values w.memory)) (refused_text w.answer.number w.answer.values)

-- the file's numbers are read, and where that is accepted they are taken for a job; a file that is refused has no accepted points
abbrev pub file_text : (List ℕ → List ℕ → Written (Said ℕ) (List ℕ)) → Written (Said ℕ) (List ℕ) → List ℕ → List ℕ
file_text taken n words = cond (eqb n.answer.number 0) (job_text (taken (take n.answer.values n.memory) words)) (refused_text n.answer.number 0)
