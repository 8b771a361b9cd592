-- Document 01's number and values for each answer of the encoder. An accepted call's count is that of the words used after it; a refused one has "its
-- number, count zero and the given state".
-- A fresh encoder has no given state, so a refusal there comes with none.
use Rattle.std.specs.Prelude.{ℕ, cond, List, [], ◌∷◌, leb, eqb, length, Result, Ok, Err}
use Rattle.promise.specs.Answers.{Written, kept}
use Rattle.refusal.specs.declared.Refusal.{Refusal}
use Rattle.refusal.specs.declared.Refusal.TheVariants.{Kind, Box, Room}
use Rattle.refusal.specs.Said.{Said, accepted, refused}
use Rattle.clip.specs.declared.BBox.{BBox}
use Rattle.clip.specs.Domain.{is_good}
use Rattle.words.specs.Geometries.{is_kind, room}
use Rattle.encoder.specs.declared.GeomEncoder.{GeomEncoder}
use Rattle.clip.specs.declared.Edge.TheVariants.{Stayed}
use Rattle.encoder.specs.declared.Edges.{Edges}
use Rattle.encoder.specs.States.{fresh}
use Rattle.encoder.specs.Tallies.{counts_fit}
use Rattle.refusal.specs.declared.Refused.{Refused}

pub record Counted : Type 0 where
  pub count : ℕ
  pub state : GeomEncoder

abbrev pub done : GeomEncoder → Said Counted
done s = accepted (record { count = s.used; state = s })

abbrev pub turned : Refusal → GeomEncoder → Said Counted
turned r s = refused r (record { count = 0; state = s })

abbrev pub said_drawn : Result (GeomEncoder × Edges) (Refused GeomEncoder) → Said Counted
said_drawn (Ok (s, e)) = done s
said_drawn (Err e) = turned e.refusal e.kept

-- the edges of an answer: those of the accepted point, and of a refused call none (document 02, request (v))
abbrev pub none : Edges
none = record { first = Stayed; second = Stayed }

abbrev pub edges_of : Result (GeomEncoder × Edges) (Refused GeomEncoder) → Edges
edges_of (Ok (s, e)) = e
edges_of (Err e) = none

abbrev pub passed : Said Counted → Edges → Edges
passed a e = cond (eqb a.number 0) e none

-- ROOM, the last check: w is the result reckoned without a limit on room
abbrev pub fitting : GeomEncoder → List ℕ → Written GeomEncoder (List ℕ) → Written (Said Counted) (List ℕ)
fitting s out w = cond (leb w.answer.used (room (length out))) (record { answer = done w.answer; memory = w.memory }) (kept (turned Room s) out)

-- and of a point: its counts too (completing changes none)
abbrev pub roomy : GeomEncoder → List ℕ → Written GeomEncoder (List ℕ) → Written (Said Counted) (List ℕ)
roomy s out w = cond (counts_fit w.answer.tally) (fitting s out w) (kept (turned Room s) out)

-- ---- a fresh encoder: KIND, BOX
abbrev pub said_started : Result GeomEncoder Refusal → Said (List GeomEncoder)
said_started (Ok s) = accepted (s ∷ [])
said_started (Err r) = refused r []

abbrev pub started : ℕ → BBox → Said (List GeomEncoder)
started kind bbox = cond (is_kind kind) (cond (is_good bbox) (accepted (fresh kind bbox ∷ [])) (refused Box [])) (refused Kind [])
