-- Document 02, request (v): "The encoder and the job pass these on in order." The whole job of document 01 with a second lent list, two entries for each
-- raw point: what became of the first and of the second end of the raw segment that ends in the point, 0 0 where no segment is clipped.
-- A call for a point whose entries the list lacks is refused as ROOM, its last check. Words, answers and refusals are else those of the whole job
-- (`same_job` of proofs/Same).
use Rattle.std.specs.Prelude.{ℕ, ◌+◌, ◌*◌, ◌/◌, Bool, cond, List, [], ◌∷◌, leb, eqb, ℤ, length, Result, Ok, Err}
use Rattle.promise.specs.Answers.{Written, Gives, kept}
use Rattle.promise.specs.Lent.{Lent}
use Rattle.promise.specs.Laid.{lay}
use Rattle.refusal.specs.declared.Refusal.{Refusal}
use Rattle.refusal.specs.declared.Refusal.TheVariants.{State, Coord, Room}
use Rattle.refusal.specs.declared.Refused.{Refused}
use Rattle.refusal.specs.Said.{Said, refused}
use Rattle.clip.specs.declared.Pt.{Pt}
use Rattle.clip.specs.declared.BBox.{BBox}
use Rattle.clip.specs.Domain.{is_coord}
use Rattle.clip.specs.Numbers.{edge_number}
use Rattle.encoder.specs.declared.GeomEncoder.{GeomEncoder}
use Rattle.encoder.specs.declared.Edges.{Edges}
use Rattle.encoder.specs.States.{valid, fresh}
use Rattle.encoder.specs.Answers.{Counted, turned}
use Rattle.encoder.specs.Adding.{added, edges}
use Rattle.encoder.specs.Completing.{completed}
use Rattle.encoder.specs.Calls.{Call, add, complete}
use Rattle.encoder.specs.Jobs.{points_of, job_calls, Outcome, on, off, taken, stopped, outcome, checked}

-- the two lists that a job writes
pub record Lists : Type 0 where
  pub words : List ℕ
  pub edges : List ℕ

abbrev pub lists : List ℕ → List ℕ → Lists
lists words edges = record { words = words; edges = edges }

-- the entries of a point, and whether the list has those of point i
abbrev pub entries : Edges → List ℕ
entries e = edge_number e.first ∷ edge_number e.second ∷ []

abbrev pub has_entries : ℕ → List ℕ → Bool
has_entries i l = leb (2 * i + 2) (length l)

-- ---- a call
-- what a call without room for its entries is refused as: STATE and COORD come first
abbrev pub unroomed : GeomEncoder → Pt → ℕ → Refusal
unroomed s p n = cond (valid s n) (cond (is_coord p) Room Coord) State

-- an accepted point has its entries, a refused one leaves the list
abbrev pub noted : GeomEncoder → Pt → ℕ → ℕ → List ℕ → List ℕ
noted s p number i l = cond (eqb number 0) (lay (2 * i) (entries (edges s p)) l) l

abbrev pub with_entries : GeomEncoder → Pt → ℕ → Lists → Written (Said Counted) Lists
with_entries s p i m =
    let w : Written (Said Counted) (List ℕ) = added s p m.words in
    record { answer = w.answer; memory = lists w.memory (noted s p w.answer.number i m.edges) }

unfoldable pub edged : GeomEncoder → Pt → ℕ → Lists → Written (Said Counted) Lists
edged s p i m = cond (has_entries i m.edges) (with_entries s p i m) (kept (turned (unroomed s p (length m.words)) s) m)

abbrev pub ended : GeomEncoder → Lists → Written (Said Counted) Lists
ended s m = record { answer = (completed s m.words).answer; memory = lists (completed s m.words).memory m.edges }

-- i points are accepted before it
abbrev pub call : Call → ℕ → GeomEncoder → Lists → Written (Said Counted) Lists
call (add p) i s m = edged s p i m
call complete i s m = ended s m

-- ---- calls in order, up to the first that is refused; that one leaves the lists as the accepted ones left them
abbrev pub go : List Call → ℕ → GeomEncoder → Lists → Written Outcome Lists
go [] n s m = kept (on n s) m
go (c ∷ cs) n s m =
    cond (eqb (call c n s m).answer.number 0)
    (go cs (taken c n) (call c n s m).answer.values.state (call c n s m).memory)
    (kept (off (stopped n (call c n s m).answer)) m)

abbrev pub run : List Call → GeomEncoder → Lists → Written (Said ℕ) Lists
run cs s m = record { answer = outcome (go cs 0 s m).answer; memory = (go cs 0 s m).memory }

-- ---- the whole job: JOB, KIND, BOX, then the calls
unfoldable pub edge_job : ℕ → BBox → List ℤ → List ℕ → Lists → Written (Said ℕ) Lists
edge_job kind bbox points ends m = checked (λ a. a) kind bbox points ends m (run (job_calls (points_of points) 0 ends) (fresh kind bbox) m)

-- what the code's course stands for, once n points are accepted
abbrev pub outcome_of : ℕ → Result GeomEncoder (Refused ℕ) → Outcome
outcome_of n (Ok s) = on n s
outcome_of n (Err e) = off (refused e.refusal e.kept)

-- all calls of a job, from a state on; and what the code's course stands for behind them
abbrev pub go_all : List ℤ → List ℕ → GeomEncoder → Lists → Written Outcome Lists
go_all points ends s m = go (job_calls (points_of points) 0 ends) 0 s m

abbrev pub end_of : List ℤ → Result GeomEncoder (Refused ℕ) → Outcome
end_of points r = outcome_of (length points / 2) r

-- the answer, and both lists after the call, are those of w
abbrev pub Writes : {A : Type 0} → (Lists → Written A Lists) → A → Lent → Lent → Type 0
Writes w r words edges = Gives (w (lists words.entry.now edges.entry.now)) r (lists words.exit.now edges.exit.now)
