-- RULES 11. Document 01, "Job file": "the contents table comes first: kind, x_min, x_max, y_min, y_max, part count, each part's end (in points,
-- from the start). Then the bodies".
use Rattle.std.specs.Prelude.{ℕ, ◌+◌, ◌-◌, ◌/◌, cond, List, map, leb, ℤ, length, take, drop, get_or, Option, Some, None, Result}
use Rattle.promise.specs.Answers.{Written, kept}
use Rattle.refusal.specs.declared.Refusal.TheVariants.{Job}
use Rattle.refusal.specs.Said.{Said, refused}
use Rattle.clip.specs.declared.BBox.{BBox}
use Rattle.number_file.specs.Numbers.{max_bytes}
use Rattle.whole.specs.Twos.{signed32}
use Rattle.refusal.specs.declared.Refused.{Refused}
use Rattle.encoder.specs.declared.GeomEncoder.{GeomEncoder}
use Rattle.encoder.specs.Jobs.{Outcome, off, encoded_job, finished_job, end_of}
use Rattle.edge_job.specs.EdgeJobs.{Lists, edge_job}

-- ---- the contents table
abbrev pub kind_of : List ℕ → ℕ
kind_of file = get_or file 0 0

-- "box edges signed"
abbrev pub box : ℕ → ℕ → ℕ → ℕ → BBox
box left right bottom top = record { x_min = signed32 left; x_max = signed32 right; y_min = signed32 bottom; y_max = signed32 top }

abbrev pub box_of : List ℕ → BBox
box_of file = box (get_or file 1 0) (get_or file 2 0) (get_or file 3 0) (get_or file 4 0)

abbrev pub parts_of : List ℕ → ℕ
parts_of file = get_or file 5 0

abbrev pub ends_of : List ℕ → List ℕ
ends_of file = take (parts_of file) (drop 6 file)

-- ---- the bodies
abbrev pub points_in : List ℕ → List ℤ
points_in file = map signed32 (drop (6 + parts_of file) file)

-- JOB first, "file cut short or too long" (65,536 bytes, four to a number); then the whole job in its own order: JOB of its lists, KIND, BOX, the calls
unfoldable pub job_file : List ℕ → List ℕ → Written (Said ℕ) (List ℕ)
job_file file words =
    cond (leb (length file) (max_bytes / 4))
    (cond (leb 6 (length file))
    (cond (leb (parts_of file) (length file - 6))
    (encoded_job (kind_of file) (box_of file) (points_in file) (ends_of file) words)
    (kept (refused Job 0) words))
    (kept (refused Job 0) words))
    (kept (refused Job 0) words)

-- ---- what the private step `encode_body` promises: the job whose ends stand from 6 up to `body`, and whose points from there on
abbrev pub body_encoded : List ℕ → ℕ → List ℕ → Written (Said ℕ) (List ℕ)
body_encoded file body words = encoded_job (kind_of file) (box_of file) (map signed32 (drop body file)) (take (body - 6) (drop 6 file)) words

-- ---- the same file, with the edges of each raw point
unfoldable pub job_file_edges : List ℕ → Lists → Written (Said ℕ) Lists
job_file_edges file m =
    cond (leb (length file) (max_bytes / 4))
    (cond (leb 6 (length file))
    (cond (leb (parts_of file) (length file - 6))
    (edge_job (kind_of file) (box_of file) (points_in file) (ends_of file) m)
    (kept (refused Job 0) m))
    (kept (refused Job 0) m))
    (kept (refused Job 0) m)

abbrev pub body_edges : List ℕ → ℕ → Lists → Written (Said ℕ) Lists
body_edges file body m = edge_job (kind_of file) (box_of file) (map signed32 (drop body file)) (take (body - 6) (drop 6 file)) m

-- ---- the same file, with the state behind its last call (document 02, request (ix)), and what the code's course stands for there
unfoldable pub job_file_finished : List ℕ → List ℕ → Written Outcome (List ℕ)
job_file_finished file words =
    cond (leb (length file) (max_bytes / 4))
    (cond (leb 6 (length file))
    (cond (leb (parts_of file) (length file - 6))
    (finished_job (kind_of file) (box_of file) (points_in file) (ends_of file) words)
    (kept (off (refused Job 0)) words))
    (kept (off (refused Job 0)) words))
    (kept (off (refused Job 0)) words)

abbrev pub file_end : List ℕ → Result GeomEncoder (Refused ℕ) → Outcome
file_end file r = end_of (points_in file) r

abbrev pub body_finished : List ℕ → ℕ → List ℕ → Written Outcome (List ℕ)
body_finished file body words = finished_job (kind_of file) (box_of file) (map signed32 (drop body file)) (take (body - 6) (drop 6 file)) words

abbrev pub body_end : List ℕ → ℕ → Result GeomEncoder (Refused ℕ) → Outcome
body_end file body r = end_of (map signed32 (drop body file)) r

-- ---- where the points begin, by the same tests, and how many there are; a file that is refused for its table has none
unfoldable pub body_of : List ℕ → Option ℕ
body_of file =
    cond (leb (length file) (max_bytes / 4))
    (cond (leb 6 (length file))
    (cond (leb (parts_of file) (length file - 6)) (Some (6 + parts_of file)) None)
    None)
    None

abbrev pub count_in : List ℕ → Option ℕ → ℕ
count_in file (Some body) = length (points_in file) / 2
count_in file None = 0

abbrev pub point_count : List ℕ → ℕ
point_count file = count_in file (body_of file)
