-- Document 01, "Adding a point": the boundary points, the point itself, and the whole call.
use Rattle.std.specs.Prelude.{ℕ, cond, List, [], ◌∷◌, ◌++◌, eqb, ℤ, length, Option, Some, None}
use Rattle.promise.specs.Answers.{Written, kept}
use Rattle.promise.specs.Laid.{lay}
use Rattle.refusal.specs.declared.Refusal.TheVariants.{State, Coord}
use Rattle.refusal.specs.Said.{Said}
use Rattle.clip.specs.declared.Pt.{Pt}
use Rattle.clip.specs.declared.BBox.{BBox}
use Rattle.clip.specs.Domain.{is_coord}
use Rattle.clip.specs.Cutting.{clip}
use Rattle.encoder.specs.Boundary.{moved_ends, named_by}
use Rattle.encoder.specs.declared.GeomEncoder.{GeomEncoder}
use Rattle.encoder.specs.States.{valid}
use Rattle.encoder.specs.Answers.{Counted, turned, roomy, none}
use Rattle.encoder.specs.declared.Edges.{Edges}
use Rattle.encoder.specs.Emitting.{emission}
use Rattle.encoder.specs.Tallies.{took_points}

-- ---- "clip the raw segment. Emit the first end if it moved, then the second if it moved."
abbrev pub cut_from : BBox → Option Pt → Pt → List Pt
cut_from b None p = []
cut_from b (Some q) p = moved_ends (record { p0 = q; p1 = p }) (clip b (record { p0 = q; p1 = p })).seg

-- "For lines and polygons with an earlier raw point in this part"
unfoldable pub boundary : GeomEncoder → Pt → List Pt
boundary s p = cond (eqb s.kind 1) [] (cut_from s.bbox s.xy_end p)

-- document 02, request (v): the edges of the raw segment that ends in the point; where no segment is clipped, none
abbrev pub edges_from : BBox → Option Pt → Pt → Edges
edges_from b None p = none
edges_from b (Some q) p = named_by (clip b (record { p0 = q; p1 = p }))

unfoldable pub edges : GeomEncoder → Pt → Edges
edges s p = cond (eqb s.kind 1) none (edges_from s.bbox s.xy_end p)

-- "Then emit the point itself, always."
abbrev pub emissions : GeomEncoder → Pt → List Pt
emissions s p = boundary s p ++ (p ∷ [])

-- ---- points emitted one after the other: the state and the list after them
abbrev pub emitted : GeomEncoder → List Pt → List ℕ → Written GeomEncoder (List ℕ)
emitted s [] out = kept s out
emitted s (p ∷ ps) out = emitted (emission s p).next ps (lay (emission s p).at (emission s p).run out)

-- the raw end of this part, for lines and polygons
abbrev pub ended : GeomEncoder → Pt → GeomEncoder
ended s p = record {
  tally = s.tally;
  kind = s.kind;
  bbox = s.bbox;
  xy_end = cond (eqb s.kind 1) s.xy_end (Some p);
  pt0 = s.pt0;
  pt1 = s.pt1;
  cmd_offset = s.cmd_offset;
  count = s.count;
  used = s.used;
}

-- document 02, request (ix): n raw points and m boundary points are counted, whatever becomes of them
abbrev pub counted : ℕ → ℕ → GeomEncoder → GeomEncoder
counted n m s = record {
  tally = took_points n m s.tally;
  kind = s.kind;
  bbox = s.bbox;
  xy_end = s.xy_end;
  pt0 = s.pt0;
  pt1 = s.pt1;
  cmd_offset = s.cmd_offset;
  count = s.count;
  used = s.used;
}

abbrev pub drawn : GeomEncoder → Pt → List ℕ → Written GeomEncoder (List ℕ)
drawn s p out =
    let w : Written GeomEncoder (List ℕ) = emitted (counted 1 (length (boundary s p)) s) (emissions s p) out in
    record { answer = ended w.answer p; memory = w.memory }

abbrev pub point_at : ℤ → ℤ → Pt
point_at x y = record { x = x; y = y }

-- ---- the call: STATE, COORD, ROOM
unfoldable pub added : GeomEncoder → Pt → List ℕ → Written (Said Counted) (List ℕ)
added s p out = cond (valid s (length out)) (cond (is_coord p) (roomy s out (drawn s p out)) (kept (turned Coord s) out)) (kept (turned State s) out)
