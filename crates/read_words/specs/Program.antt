-- What the program prints for a file of words, numbers as a job file has them with nothing before or after the words: document 01's "Reading words" as
-- request (iii) of document 02 amends it, put together from what its parts say.
use Rattle.std.specs.Prelude.{ℕ, ◌*◌, cond, List, eqb, ℤ, take}
use Rattle.promise.specs.Answers.{Written}
use Rattle.refusal.specs.Said.{Said}
use Rattle.number_file.specs.Numbers.{reading as numbersRead}
use Rattle.decoder.specs.ReadingWords.{reading}
use Rattle.printed.specs.Faults.{fault_text}
use Rattle.printed.specs.Vertices.{vertices_text}

-- a reading's answer: its vertices, three numbers each, or its refusal
abbrev pub read_text : Written (Said ℕ) (List ℤ) → List ℕ
read_text w = cond (eqb w.answer.number 0) (vertices_text (take (3 * w.answer.values) w.memory)) (fault_text w.answer.number w.answer.place)

-- the file's numbers are read, and where that is accepted they are read as words
abbrev pub file_text : Written (Said ℕ) (List ℕ) → List ℤ → List ℕ
file_text n out =
    cond (eqb n.answer.number 0) (read_text (reading (take n.answer.values n.memory) out)) (fault_text n.answer.number n.answer.place)

unfoldable pub printed : List ℕ → List ℕ → List ℤ → List ℕ
printed file words out = file_text (numbersRead file words) out
