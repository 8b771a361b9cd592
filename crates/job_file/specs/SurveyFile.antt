-- RULES 11, a survey file: as a job file to the last part's end; "then a, b, c, d, e, f, then x and y by turns, each a little-endian double in 8 bytes, no
-- padding", so two numbers each, the low half of its bits first.
use Rattle.std.specs.Prelude.{ℕ, ◌+◌, ◌-◌, ◌/◌, ◌%◌, cond, List, [], ◌∷◌, leb, eqb, Float, length, take, drop, get_or}
use Rattle.std.specs.Float.{nan, binary64}
use Rattle.std.specs.Float.Ieee.{of_bits}
use Rattle.promise.specs.Answers.{Written, kept}
use Rattle.refusal.specs.declared.Refusal.TheVariants.{Job}
use Rattle.refusal.specs.Said.{Said, refused}
use Rattle.whole.specs.Twos.{wide}
use Rattle.number_file.specs.Numbers.{max_bytes}
use Rattle.affine.specs.declared.Affine.{Affine}
use Rattle.survey_job.specs.Surveys.{surveyed_job}
use Rattle.job_file.specs.JobFile.{kind_of, box_of, parts_of, ends_of}

-- ---- doubles: two numbers are one, and a number that is left over is none
abbrev pub doubles_of : List ℕ → List Float
doubles_of [] = []
doubles_of (low ∷ []) = []
doubles_of (low ∷ high ∷ l) = of_bits binary64 (wide low high) ∷ doubles_of l

-- the first six are the map, and the rest the points
abbrev pub map_of : List Float → Affine
map_of l = record { a = get_or l 0 nan; b = get_or l 1 nan; c = get_or l 2 nan; d = get_or l 3 nan; e = get_or l 4 nan; f = get_or l 5 nan }

-- ---- what stands behind the last part's end
abbrev pub behind_table : List ℕ → List ℕ
behind_table file = drop (6 + parts_of file) file

-- JOB first: "file cut short or too long", as of a job file; "another length, or fewer than 12 numbers behind the ends" (two numbers a double, two doubles a
-- point); then the surveyed job in its own order: JOB of its lists, KIND, BOX, the calls
unfoldable pub survey_file : List ℕ → List ℕ → Written (Said ℕ) (List ℕ)
survey_file file words =
    cond (leb (length file) (max_bytes / 4))
    (cond (leb 6 (length file))
    (cond (leb (parts_of file) (length file - 6))
    (cond (leb 12 (length (behind_table file)))
    (cond (eqb (length (behind_table file) % 4) 0)
    (surveyed_job (kind_of file) (box_of file) (map_of (doubles_of (behind_table file))) (drop 6 (doubles_of (behind_table file))) (ends_of file) words)
    (kept (refused Job 0) words))
    (kept (refused Job 0) words))
    (kept (refused Job 0) words))
    (kept (refused Job 0) words))
    (kept (refused Job 0) words)

-- ---- what the private step `encode_body` promises: the job whose ends stand from 6 up to `body`, and whose doubles from there on
abbrev pub body_surveyed : List ℕ → ℕ → List ℕ → Written (Said ℕ) (List ℕ)
body_surveyed file body words =
    surveyed_job (kind_of file) (box_of file) (map_of (doubles_of (drop body file))) (drop 6 (doubles_of (drop body file))) (take (body - 6) (drop 6 file)) words
