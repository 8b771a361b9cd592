-- A stretch of points: as `added` one after the other, as long as each has room for all that it can bring and is a coordinate.
use Rattle.std.specs.Prelude.{ℕ, zero, suc, ◌+◌, ◌-◌, ◌*◌, ◌/◌, ◌≤◌, ◌<◌, ◌≡◌, Bool, true, cond, not, ◌&&◌, List, leb, eqb, ℤ, pos, length, get_or}
use Rattle.promise.specs.Answers.{Written, kept}
use Rattle.number.specs.Least.{smaller}
use Rattle.clip.specs.declared.Pt.{Pt}
use Rattle.clip.specs.Domain.{is_coord}
use Rattle.words.specs.Geometries.{room}
use Rattle.encoder.specs.declared.GeomEncoder.{GeomEncoder}
use Rattle.encoder.specs.States.{Sound}
use Rattle.encoder.specs.declared.tally.Tally.{Tally}
use Rattle.encoder.specs.Tallies.{max_tally, counts_fit}
use Rattle.encoder.specs.Adding.{point_at, counted, added}
use Rattle.encoder.specs.declared.draft.Draft.{Draft}
use Rattle.encoder.specs.declared.pen.Pen.{Pen}
use Rattle.encoder.specs.Pens.{state_of}
use Rattle.encoder.specs.Drafts.{draft_of}
use Rattle.encoder.specs.declared.stretch.Stretch.{Stretch}

-- "a lent list of signed 32-bit numbers, x and y by turns": the point at i
abbrev pub point_in : List ℤ → ℕ → Pt
point_in l i = point_at (get_or l (2 * i) (pos 0)) (get_or l (2 * i + 1) (pos 0))

-- a line or a polygon with two points in this part: no command is pushed any more
abbrev pub is_start : Draft → Bool
is_start d = not (eqb d.kind 1) && leb 2 d.pen.count && d.joins && d.has0 && d.has1

-- the emissions that a pen has seen: each is a vertex more, a point skipped, or one that took the last point out
abbrev pub emissions_by : Pen → ℕ
emissions_by pen = pen.count + pen.skipped + pen.taken_out

-- the state that a pen has come to after n points: of the emissions since `start`, those that are no points are boundary points
abbrev pub reckoned : GeomEncoder → Pen → Pen → ℕ → GeomEncoder
reckoned s start pen n = state_of (counted n (emissions_by pen - emissions_by start - n) s) pen

-- a point brings at most three emissions: for so many points no count becomes too large
abbrev pub spare_of : Tally → ℕ
spare_of t = (max_tally - (t.taken + t.boundary)) / 3

-- the counts of the state fit, and those after n points more
pub record Counting (s : GeomEncoder) (n : ℕ) : Type 0 where
  pub fits : counts_fit s.tally ≡ true
  pub spare : 0 < n → s.tally.taken + s.tally.boundary + 3 * n ≤ max_tally

-- a pen that a stretch can go on from, with a list of length n
pub record Ongoing (s : GeomEncoder) (pen : Pen) (n : ℕ) : Type 0 where
  pub kind : s.kind ≡ 1 → ⊥
  pub two : 2 ≤ pen.count
  pub sound : Sound (state_of s pen) n

-- room for three emissions of two words, and a coordinate: such a point is never refused, where its counts fit
abbrev pub is_plain : GeomEncoder → Pt → ℕ → Bool
is_plain s p n = leb (s.used + 6) (room n) && is_coord p

abbrev pub halted : GeomEncoder → ℕ → Stretch
halted s i = record { state = s; reached = i }

-- at most n points, from the one at i on, each as `added` leaves the state and the list
abbrev pub run : ℕ → List ℤ → ℕ → GeomEncoder → List ℕ → Written Stretch (List ℕ)
run zero l i s out = kept (halted s i) out
run (suc n) l i s out =
    cond (is_plain s (point_in l i) (length out))
    (run n l (i + 1) (added s (point_in l i) out).answer.values.state (added s (point_in l i) out).memory)
    (kept (halted s i) out)

-- a list of that length has no point behind half of it
abbrev pub last_point : ℕ → ℕ → ℕ
last_point n to = cond (leb to (n / 2)) to (n / 2)

unfoldable pub stretched : GeomEncoder → List ℤ → ℕ → ℕ → List ℕ → Written Stretch (List ℕ)
stretched s l from to out =
    let most : ℕ = smaller (last_point (length l) to - from) (spare_of s.tally) in
    cond (is_start (draft_of s)) (run most l from s out) (kept (halted s from) out)
