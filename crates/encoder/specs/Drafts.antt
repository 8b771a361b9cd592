-- What the code's drafts stand for: the state, and the state and the words after each emission of a point.
use Rattle.std.specs.Prelude.{ℕ, ◌+◌, ◌≤◌, ◌≡◌, Bool, true, not, ◌&&◌, List, [], leb, eqb, length, Option, Some, None}
use Rattle.promise.specs.Laid.{lay}
use Rattle.clip.specs.declared.Pt.{Pt}
use Rattle.clip.specs.Domain.{is_coord}
use Rattle.encoder.specs.declared.GeomEncoder.{GeomEncoder}
use Rattle.encoder.specs.declared.boundary.Ends.{Ends}
use Rattle.encoder.specs.declared.draft.Draft.{Draft}
use Rattle.encoder.specs.declared.plan.Plan.{Plan}
use Rattle.encoder.specs.declared.pen.Pen.{Pen}
use Rattle.words.specs.Geometries.{max_words}
use Rattle.encoder.specs.Adding.{boundary, counted}
use Rattle.encoder.specs.Points.{missing, clamped, in_limit}
use Rattle.encoder.specs.Boundary.{maybe}
use Rattle.encoder.specs.Emitting.{Emission, emitted_at}
use Rattle.encoder.specs.Planning.{plan_limit, Ready, Few}
use Rattle.encoder.specs.Pens.{pen_of, onward}

abbrev pub draft_of : GeomEncoder → Draft
draft_of s = record {
  kind = s.kind;
  bbox = s.bbox;
  pen = pen_of s;
  joins = not (missing s.xy_end);
  has0 = not (missing s.pt0);
  has1 = not (missing s.pt1);
  place = s.cmd_offset;
  taken = s.tally.taken;
  boundary = s.tally.boundary;
}

abbrev pub state_in : Draft → GeomEncoder
state_in d = record {
  tally = record { taken = d.taken; boundary = d.boundary; skipped = d.pen.skipped; taken_out = d.pen.taken_out };
  kind = d.kind;
  bbox = d.bbox;
  xy_end = maybe d.joins d.pen.raw;
  pt0 = maybe d.has0 d.pen.pt0;
  pt1 = maybe d.has1 d.pen.pt1;
  cmd_offset = d.place;
  count = d.pen.count;
  used = d.pen.used;
}

abbrev pub with_pen : Draft → Pen → Draft
with_pen d pen = record {
  kind = d.kind;
  bbox = d.bbox;
  pen = pen;
  joins = d.joins;
  has0 = d.has0;
  has1 = d.has1;
  place = d.place;
  taken = d.taken;
  boundary = d.boundary;
}

-- the last point may be taken out: "Polygons with count ≥ 2", and two points are there
abbrev pub ringing : Draft → Bool
ringing d = eqb d.kind 3 && leb 2 d.pen.count && d.has0 && d.has1

-- q is pushed from the pen `base`, with the last command at that place; behind a word, or not
abbrev pub pushed_to : Draft → Pen → Pt → ℕ → Draft
pushed_to d base q place = record {
  kind = d.kind;
  bbox = d.bbox;
  pen = (onward base q).pen;
  joins = d.joins;
  has0 = d.has1;
  has1 = true;
  place = place;
  taken = d.taken;
  boundary = d.boundary;
}

abbrev pub behind : Pen → Pen
behind pen = record {
  raw = pen.raw;
  pt0 = pen.pt0;
  pt1 = pen.pt1;
  count = pen.count;
  used = pen.used + 1;
  skipped = pen.skipped;
  taken_out = pen.taken_out;
}

abbrev pub pushed_by : Option ℕ → Draft → Pen → Pt → Draft
pushed_by None d base q = pushed_to d base q d.place
pushed_by (Some w) d base q = pushed_to d (behind base) q base.used

-- ---- a point taken, with the ends that moved
abbrev pub one_if : Option Pt → ℕ
one_if (Some p) = 1
one_if None = 0

abbrev pub taken_by : Draft → Ends → Draft
taken_by d e = record {
  kind = d.kind;
  bbox = d.bbox;
  pen = d.pen;
  joins = d.joins;
  has0 = d.has0;
  has1 = d.has1;
  place = d.place;
  taken = d.taken + 1;
  boundary = d.boundary + (one_if e.end0 + one_if e.end1);
}

-- ---- the emissions of a point: the ends that moved, then q
abbrev pub emitted_if : GeomEncoder → Option Pt → Emission
emitted_if s (Some q) = emitted_at s q
emitted_if s None = record { next = s; at = s.used; run = [] }

-- each is a coordinate
pub record Near (e : Ends) (q : Pt) : Type 0 where
  pub end0 : in_limit e.end0 ≡ true
  pub end1 : in_limit e.end1 ≡ true
  pub last : is_coord q ≡ true

pub record Planned (r : Plan) (d : Draft) (e : Ends) (q : Pt) : Type 0 where
  pub first : state_in r.first ≡ (emitted_if (state_in d) e.end0).next
  pub second : state_in r.second ≡ (emitted_if (state_in r.first) e.end1).next
  pub last : state_in r.last ≡ (emitted_at (state_in r.second) q).next

-- ---- what writing asks: the next draft is the one after q, and a list of length n holds its words
pub record Writable (d next : Draft) (q : Pt) (n : ℕ) : Type 0 where
  pub after : state_in next ≡ (emitted_at (state_in d) q).next
  pub fits : next.pen.used ≤ n
  pub ready : Ready plan_limit (state_in d)
  pub coord : is_coord q ≡ true

-- the same of an end that may have moved
abbrev pub WritableIf : Draft → Draft → Option Pt → ℕ → Type 0
WritableIf d next end n = (q : Pt) → end ≡ Some q → Writable d next q n

pub record EndsFit (d : Draft) (plan : Plan) (e : Ends) (n : ℕ) : Type 0 where
  pub first : WritableIf d plan.first e.end0 n
  pub second : WritableIf plan.first plan.second e.end1 n

pub record AllFit (d : Draft) (plan : Plan) (e : Ends) (q : Pt) (n : ℕ) : Type 0 where
  pub ends : EndsFit d plan e n
  pub last : Writable plan.second plan.last q n

abbrev lay_of : Emission → List ℕ → List ℕ
lay_of e out = lay e.at e.run out

abbrev pub laid_ends : Draft → Plan → Ends → List ℕ → List ℕ
laid_ends d plan e out = lay_of (emitted_if (state_in plan.first) e.end1) (lay_of (emitted_if (state_in d) e.end0) out)

abbrev pub laid_all : Draft → Plan → Ends → Pt → List ℕ → List ℕ
laid_all d plan e q out = lay_of (emitted_at (state_in plan.second) q) (laid_ends d plan e out)

-- ---- what drawing a point without boundary points asks: the draft is the state with the point counted, q is the point in the box
pub record Alone (s : GeomEncoder) (d : Draft) (p q : Pt) : Type 0 where
  pub taken : state_in d ≡ counted 1 (length (boundary s p)) s
  pub none : boundary s p ≡ []
  pub ready : Ready max_words (state_in d)
  pub few : Few 1 (state_in d)
  pub at : q ≡ clamped d.bbox p
  pub coord : is_coord q ≡ true
