-- oracle/README.md, "Tile script": "First comes the tile's extent, then operations". "A script cut short, too long or with an unknown operation
-- prints `refused 1` for what cannot be read and stops there, the bytes so far following."
use Rattle.std.specs.Prelude.{ℕ, zero, suc, cond, Option, Some, None, Result, Ok, Err, List, [], ◌∷◌, ltb, eqb, length, get_or}
use Rattle.promise.specs.Answers.{Written, kept}
use Rattle.promise.specs.Laid.{lay}
use Rattle.refusal.specs.declared.Refusal.{Refusal}
use Rattle.refusal.specs.declared.Refusal.TheVariants.{Job, Room}
use Rattle.refusal.specs.Refusals.{number_of}
use Rattle.refusal.specs.Said.{Said, accepted, refused}
use Rattle.tile.specs.Tiles.{fresh_tile}
use Rattle.script.specs.declared.Op.{Op}
use Rattle.script.specs.Script.{operation}
use Rattle.tile_run.specs.declared.performing.Work.{Work}
use Rattle.tile_run.specs.Operations.{Lists, performed}

-- what a run comes to: its outcomes, the tile and what is at hand, and the lent lists
pub record Course : Type 0 where
  pub outcomes : List ℕ
  pub work : Work
  pub lists : Lists

abbrev pub ended : Work → Lists → Course
ended w m = record { outcomes = []; work = w; lists = m }

-- what cannot be read is JOB, and the run stops there
abbrev pub stopped : Work → Lists → Course
stopped w m = record { outcomes = number_of Job ∷ []; work = w; lists = m }

-- an outcome before those of a course
abbrev pub before : ℕ → Course → Course
before n c = record { outcomes = n ∷ c.outcomes; work = c.work; lists = c.lists }

-- an operation was performed, and the run goes on with what it left
abbrev pub goes : Written (Said Work) Lists → (Work → Lists → Course) → Course
goes p go = before p.answer.number (go p.answer.values p.memory)

abbrev pub reads : Option (Op × ℕ) → Work → Lists → (Op → ℕ → Course) → Course
reads None w m go = stopped w m
reads (Some (op, next)) w m go = go op next

-- operation after operation from a place on; each takes a number at least, so as many turns as there are numbers are enough
abbrev pub ran_from : ℕ → List ℕ → List ℕ → ℕ → Work → Lists → Course
ran_from zero bytes ns at w m = ended w m
ran_from (suc turns) bytes ns at w m =
    cond (ltb at (length ns)) (reads (operation ns at) w m (λ op next. goes (performed bytes ns op w m) (λ v l. ran_from turns bytes ns next v l))) (ended w m)

-- ---- the step that is taken at a place: an operation performed, its outcome, what there is after it and the next place; or nothing that can be read
abbrev pub Step : Type 0
Step = Option (ℕ × Work × ℕ)

abbrev pub step_to : ℕ → Written (Said Work) Lists → Written Step Lists
step_to next p = record { answer = Some (p.answer.number, p.answer.values, next); memory = p.memory }

abbrev pub stepped_by : Option (Op × ℕ) → List ℕ → List ℕ → Work → Lists → Written Step Lists
stepped_by None bytes ns w m = kept None m
stepped_by (Some (op, next)) bytes ns w m = step_to next (performed bytes ns op w m)

unfoldable pub stepped : List ℕ → List ℕ → ℕ → Work → Lists → Written Step Lists
stepped bytes ns at w m = stepped_by (operation ns at) bytes ns w m

-- ---- the whole script
-- the lists of a run: the outcomes, and the six of the tile
pub record RunLists : Type 0 where
  pub outcomes : List ℕ
  pub tile : Lists

abbrev pub run_lists : List ℕ → Lists → RunLists
run_lists os m = record { outcomes = os; tile = m }

-- how many outcomes there are, and how many bytes the tile has
pub record Counts : Type 0 where
  pub outcomes : ℕ
  pub bytes : ℕ

abbrev pub counts : ℕ → ℕ → Counts
counts n b = record { outcomes = n; bytes = b }

abbrev pub Ran : Type 0
Ran = Result (ℕ × ℕ) Refusal

abbrev pub said_ran : Ran → Said Counts
said_ran (Ok (n, b)) = accepted (counts n b)
said_ran (Err r) = refused r (counts 0 0)

-- a run, with its outcomes at the front of their list
abbrev pub course_in : Course → List ℕ → Written (Said Counts) RunLists
course_in c os = record { answer = accepted (counts (length c.outcomes) c.work.tile.used); memory = run_lists (lay 0 c.outcomes os) c.lists }

-- the script's first number is the tile's extent; where it is missing there is a JOB and no tile
abbrev pub begins : ℕ → Work
begins extent = record { tile = fresh_tile extent; hand = None }

abbrev pub course : List ℕ → List ℕ → Lists → Course
course bytes ns m = cond (eqb (length ns) 0) (stopped (begins 0) m) (ran_from (length ns) bytes ns 1 (begins (get_or ns 0 0)) m)

-- ROOM for a list of outcomes that is not longer than the numbers; else the run
unfoldable pub ran_script : List ℕ → List ℕ → List ℕ → Lists → Written (Said Counts) RunLists
ran_script bytes ns os m = cond (ltb (length ns) (length os)) (course_in (course bytes ns m) os) (kept (refused Room (counts 0 0)) (run_lists os m))
