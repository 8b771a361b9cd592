-- What the code's pen stands for: the state with the pen's points and figures, and what a point makes of a pen where no command is pushed.
use Rattle.std.specs.Prelude.{ℕ, ◌+◌, ◌-◌, ◌/◌, ◌≤◌, ◌≡◌, Bool, true, cond, ◌&&◌, List, [], ◌∷◌, ◌++◌, Option, Some, None}
use Rattle.promise.specs.Answers.{Written, kept}
use Rattle.promise.specs.Laid.{lay}
use Rattle.clip.specs.declared.Pt.{Pt}
use Rattle.clip.specs.declared.BBox.{BBox}
use Rattle.clip.specs.Domain.{is_coord}
use Rattle.clip.specs.Facts.{Coord}
use Rattle.clip.specs.Cutting.{clip}
use Rattle.words.specs.Geometries.{max_words}
use Rattle.encoder.specs.declared.GeomEncoder.{GeomEncoder}
use Rattle.encoder.specs.Points.{clamped, same_pt, between, last_of}
use Rattle.encoder.specs.Emitting.{steps}
use Rattle.encoder.specs.Tallies.{max_tally}
use Rattle.encoder.specs.Boundary.{moved_ends}
use Rattle.encoder.specs.declared.pen.Pen.{Pen}
use Rattle.encoder.specs.declared.boundary.Ends.{Ends}

abbrev pub pen_of : GeomEncoder → Pen
pen_of s = record {
  raw = last_of s.xy_end;
  pt0 = last_of s.pt0;
  pt1 = last_of s.pt1;
  count = s.count;
  used = s.used;
  skipped = s.tally.skipped;
  taken_out = s.tally.taken_out;
}

abbrev pub state_of : GeomEncoder → Pen → GeomEncoder
state_of s pen =
    record {
      tally = record { taken = s.tally.taken; boundary = s.tally.boundary; skipped = pen.skipped; taken_out = pen.taken_out };
      kind = s.kind;
      bbox = s.bbox;
      xy_end = Some pen.raw;
      pt0 = Some pen.pt0;
      pt1 = Some pen.pt1;
      cmd_offset = s.cmd_offset;
      count = pen.count;
      used = pen.used;
    }

abbrev pub with_raw : Pen → Pt → Pen
with_raw pen p = record {
  raw = p;
  pt0 = pen.pt0;
  pt1 = pen.pt1;
  count = pen.count;
  used = pen.used;
  skipped = pen.skipped;
  taken_out = pen.taken_out;
}

-- ---- one emission: the pen after it, and a run of words laid at a place
pub record Mark : Type 0 where
  pub pen : Pen
  pub at : ℕ
  pub run : List ℕ

-- the point is the last one again: it is counted, and nothing else changes
abbrev pub again : Pen → Pen
again pen = record {
  raw = pen.raw;
  pt0 = pen.pt0;
  pt1 = pen.pt1;
  count = pen.count;
  used = pen.used;
  skipped = pen.skipped + 1;
  taken_out = pen.taken_out;
}

abbrev pub still : Pen → Mark
still pen = record { pen = again pen; at = pen.used; run = [] }

-- it follows the last one
abbrev pub onward : Pen → Pt → Mark
onward pen q = record {
  pen = record {
    raw = pen.raw;
    pt0 = pen.pt1;
    pt1 = q;
    count = pen.count + 1;
    used = pen.used + 2;
    skipped = pen.skipped;
    taken_out = pen.taken_out;
  };
  at = pen.used;
  run = steps pen.pt1 q;
}

-- the last one taken out, if it is one of a ring and strictly between its neighbours
abbrev pub taken : Pen → Pen
taken pen = record {
  raw = pen.raw;
  pt0 = pen.pt0;
  pt1 = pen.pt0;
  count = pen.count - 1;
  used = pen.used - 2;
  skipped = pen.skipped;
  taken_out = pen.taken_out + 1;
}

abbrev pub before_push : Bool → Pen → Pt → Pen
before_push ring pen q = cond (ring && between pen.pt0 pen.pt1 q) (taken pen) pen

abbrev pub mark : Bool → Pen → Pt → Mark
mark ring pen q = cond (same_pt pen.pt1 q) (still pen) (onward (before_push ring pen q) q)

abbrev pub laid : Mark → List ℕ → Written Pen (List ℕ)
laid m out = record { answer = m.pen; memory = lay m.at m.run out }

unfoldable pub marked : Bool → Pen → Pt → List ℕ → Written Pen (List ℕ)
marked ring pen q out = laid (mark ring pen q) out

-- an end, emitted if it moved; and both ends of a segment
abbrev pub marked_if : Bool → Pen → Option Pt → List ℕ → Written Pen (List ℕ)
marked_if ring pen None out = kept pen out
marked_if ring pen (Some q) out = marked ring pen q out

unfoldable pub marked_ends : Bool → Pen → Ends → List ℕ → Written Pen (List ℕ)
marked_ends ring pen e out =
    let w : Written Pen (List ℕ) = marked_if ring pen e.end0 out in
    marked_if ring w.answer e.end1 w.memory

-- ---- points emitted one after the other, and the whole of a point
abbrev pub marks : BBox → Bool → Pen → List Pt → List ℕ → Written Pen (List ℕ)
marks b ring pen [] out = kept pen out
marks b ring pen (p ∷ ps) out = marks b ring (marked ring pen (clamped b p) out).answer ps (marked ring pen (clamped b p) out).memory

abbrev pub ends : BBox → Pt → Pt → List Pt
ends b raw p = moved_ends (record { p0 = raw; p1 = p }) (clip b (record { p0 = raw; p1 = p })).seg

unfoldable pub drawn_by : BBox → Bool → Pen → Pt → List ℕ → Written Pen (List ℕ)
drawn_by b ring pen p out =
    let w : Written Pen (List ℕ) = marks b ring pen (ends b pen.raw p ++ (p ∷ [])) out in
    record { answer = with_raw w.answer p; memory = w.memory }

-- ---- what the code asks of a pen: a push fits a list of length n
pub record Fit (pen : Pen) (n : ℕ) : Type 0 where
  pub room : pen.used + 2 ≤ n
  pub words : pen.used ≤ max_words
  pub few : pen.count ≤ max_words
  pub at1 : Coord pen.pt1

-- so many words more fit a list of length n, and the figures agree
pub record Able (more : ℕ) (pen : Pen) (n : ℕ) : Type 0 where
  pub room : pen.used + more ≤ n
  pub few : pen.used + more ≤ max_words
  pub two : 2 ≤ pen.count
  pub counted : pen.count ≤ pen.used / 2 + 1
  pub lost : pen.skipped + pen.taken_out + more ≤ max_tally + 6
  pub at0 : Coord pen.pt0
  pub at1 : Coord pen.pt1

-- a whole point can be drawn
pub record Steady (pen : Pen) (n : ℕ) : Type 0 where
  pub able : Able 6 pen n
  pub raw : is_coord pen.raw ≡ true
