-- The whole job: document 01, "Job file" (its lists), the conditions of JOB, and the calls in order.
use Rattle.std.specs.Prelude.{ℕ, ◌+◌, ◌-◌, ◌/◌, ◌%◌, Bool, false, cond, List, [], ◌∷◌, ◌++◌, leb, eqb, ℤ, length, take, drop, Result, Ok, Err}
use Rattle.promise.specs.Answers.{Written, Gives, kept}
use Rattle.refusal.specs.declared.Refusal.TheVariants.{Job, Kind, Box}
use Rattle.refusal.specs.Said.{Said, accepted, refused}
use Rattle.clip.specs.declared.Pt.{Pt}
use Rattle.clip.specs.declared.BBox.{BBox}
use Rattle.clip.specs.Domain.{is_good}
use Rattle.words.specs.Geometries.{is_kind}
use Rattle.encoder.specs.declared.GeomEncoder.{GeomEncoder}
use Rattle.encoder.specs.States.{fresh}
use Rattle.encoder.specs.Answers.{Counted, started}
use Rattle.encoder.specs.Adding.{point_at}
use Rattle.encoder.specs.Calls.{Call, add, complete, call, part_calls}
use Rattle.refusal.specs.declared.Refused.{Refused}

-- ---- "points are a lent list of signed 32-bit numbers, x and y by turns"
abbrev pub points_of : List ℤ → List Pt
points_of [] = []
points_of (x ∷ []) = []
points_of (x ∷ y ∷ l) = point_at x y ∷ points_of l

-- ---- JOB: "no parts; ends descend; last end is not the point count; coordinate list odd"
-- from `from` on the ends do not descend, and the last one is n
abbrev pub ends_at : ℕ → List ℕ → ℕ → Bool
ends_at from [] n = eqb from n
ends_at from (e ∷ es) n = cond (leb from e) (ends_at e es n) false

-- of a list of n coordinates
abbrev pub is_job_of : ℕ → List ℕ → Bool
is_job_of n ends = cond (eqb (length ends) 0) false (cond (eqb (n % 2) 0) (ends_at 0 ends (n / 2)) false)

unfoldable pub is_job : List ℤ → List ℕ → Bool
is_job points ends = is_job_of (length points) ends

-- ---- the calls: for each part its points, from the end before it to its own, and its completion
abbrev pub part : List Pt → ℕ → ℕ → List Pt
part ps from to = take (to - from) (drop from ps)

abbrev pub job_calls : List Pt → ℕ → List ℕ → List Call
job_calls ps from [] = []
job_calls ps from (e ∷ es) = part_calls (part ps from e) ++ job_calls ps e es

-- ---- calls in order, up to the first that is refused
-- on: so many points are accepted, and the state; off: what the refused call said, with the count of points accepted before it
pub data Outcome : Type 0 where
  on : ℕ → GeomEncoder → Outcome
  off : Said ℕ → Outcome

abbrev pub taken : Call → ℕ → ℕ
taken (add p) n = n + 1
taken complete n = n

abbrev pub stopped : ℕ → Said Counted → Said ℕ
stopped n a = record { number = a.number; place = a.place; values = n }

-- a refused call leaves the memory as the accepted ones left it
abbrev pub go : List Call → ℕ → GeomEncoder → List ℕ → Written Outcome (List ℕ)
go [] n s out = kept (on n s) out
go (c ∷ cs) n s out =
    cond (eqb (call c s out).answer.number 0)
    (go cs (taken c n) (call c s out).answer.values.state (call c s out).memory)
    (kept (off (stopped n (call c s out).answer)) out)

-- the words used, or the refusal with the accepted points
abbrev pub outcome : Outcome → Said ℕ
outcome (on n s) = accepted s.used
outcome (off a) = a

abbrev pub run : List Call → GeomEncoder → List ℕ → Written (Said ℕ) (List ℕ)
run cs s out = record { answer = outcome (go cs 0 s out).answer; memory = (go cs 0 s out).memory }

-- ---- a run of points, which a job may add piece by piece (document 02, request (x)): their calls in order and no completion
abbrev pub add_calls : List Pt → List Call
add_calls [] = []
add_calls (p ∷ ps) = add p ∷ add_calls ps

unfoldable pub added_run : GeomEncoder → List ℤ → List ℕ → Written Outcome (List ℕ)
added_run s points out = go (add_calls (points_of points)) 0 s out

-- what the code's start of a job says: JOB, then KIND and BOX of a fresh encoder
abbrev pub job_started : ℕ → BBox → List ℤ → List ℕ → Said (List GeomEncoder)
job_started kind bbox points ends = cond (is_job points ends) (started kind bbox) (refused Job [])

-- ---- the whole job: JOB, KIND, BOX, then the calls, which give w; an answer is made by f of what is said
abbrev pub checked : {A M : Type 0} → (Said ℕ → A) → ℕ → BBox → List ℤ → List ℕ → M → Written A M → Written A M
checked f kind bbox points ends m w =
    cond (is_job points ends)
    (cond (is_kind kind)
    (cond (is_good bbox)
    w
    (kept (f (refused Box 0)) m))
    (kept (f (refused Kind 0)) m))
    (kept (f (refused Job 0)) m)

unfoldable pub encoded_job : ℕ → BBox → List ℤ → List ℕ → List ℕ → Written (Said ℕ) (List ℕ)
encoded_job kind bbox points ends out = checked (λ a. a) kind bbox points ends out (run (job_calls (points_of points) 0 ends) (fresh kind bbox) out)

-- the same with the state behind the last call, its counts among it (document 02, request (ix)); `encoded_finished` of proofs/Whole
unfoldable pub finished_job : ℕ → BBox → List ℤ → List ℕ → List ℕ → Written Outcome (List ℕ)
finished_job kind bbox points ends out = checked off kind bbox points ends out (go (job_calls (points_of points) 0 ends) 0 (fresh kind bbox) out)

-- document 01's number and values for each answer: the words used, or the refusal with the count of accepted points
abbrev pub said_encoded : Result ℕ (Refused ℕ) → Said ℕ
said_encoded (Ok n) = accepted n
said_encoded (Err e) = refused e.refusal e.kept

-- what the code's course stands for, once n points are accepted
abbrev pub outcome_of : ℕ → Result GeomEncoder (Refused ℕ) → Outcome
outcome_of n (Ok s) = on n s
outcome_of n (Err e) = off (refused e.refusal e.kept)

-- all calls of a job, from a state on; and what the code's course stands for behind them
abbrev pub go_all : List ℤ → List ℕ → GeomEncoder → List ℕ → Written Outcome (List ℕ)
go_all points ends s out = go (job_calls (points_of points) 0 ends) 0 s out

abbrev pub end_of : List ℤ → Result GeomEncoder (Refused ℕ) → Outcome
end_of points r = outcome_of (length points / 2) r

-- what `finish` promises of its answer and of the list after the call
abbrev pub Finishes : ℕ → BBox → List ℤ → List ℕ → List ℕ → Result GeomEncoder (Refused ℕ) → List ℕ → Type 0
Finishes kind bbox points ends words r after = Gives (finished_job kind bbox points ends words) (end_of points r) after
