-- Document 01, "Adding a point", the boundary points: "clip the raw segment. Emit the first end if it moved, then the second if it moved."
use Rattle.std.specs.Prelude.{◌≡◌, Bool, cond, not, ◌||◌, List, [], ◌∷◌, ◌++◌, Option, Some, None}
use Rattle.std.specs.Bool.{then_some}
use Rattle.std.specs.Int.Signed.{lt_z}
use Rattle.clip.specs.declared.Pt.{Pt}
use Rattle.clip.specs.declared.Seg.{Seg}
use Rattle.clip.specs.declared.BBox.{BBox}
use Rattle.clip.specs.declared.ClippedSeg.{ClippedSeg}
use Rattle.clip.specs.Numbers.{is_moved}
use Rattle.encoder.specs.declared.Edges.{Edges}
use Rattle.encoder.specs.declared.boundary.Ends.{Ends}
use Rattle.encoder.specs.Points.{clamped, same_pt}

abbrev pub moved : Pt → Pt → List Pt
moved raw end = cond (same_pt raw end) [] (end ∷ [])

abbrev pub moved_ends : Seg → Seg → List Pt
moved_ends raw cut = moved raw.p0 cut.p0 ++ moved raw.p1 cut.p1

-- strictly outside an edge
abbrev pub outside : BBox → Pt → Bool
outside b p = lt_z p.x b.x_min || lt_z b.x_max p.x || lt_z p.y b.y_min || lt_z b.y_max p.y

-- ---- what the code's ends stand for: none, one or two points
abbrev pub maybe : Bool → Pt → Option Pt
maybe b p = then_some b p

abbrev pub list_of : Option Pt → List Pt
list_of None = []
list_of (Some p) = p ∷ []

abbrev pub ends_of : Ends → List Pt
ends_of e = list_of e.end0 ++ list_of e.end1

-- the ends of the segment from raw to p, cut, by the points: an end has moved where it differs from the one given
abbrev pub moved_by : Pt → Pt → Seg → Ends
moved_by raw p cut = record { end0 = maybe (not (same_pt raw cut.p0)) cut.p0; end1 = maybe (not (same_pt p cut.p1)) cut.p1 }

-- the same by the edges (`moved_is` of proofs/Boundaries): one that an edge is named for has moved
abbrev pub ends_in : ClippedSeg → Ends
ends_in c = record { end0 = maybe (is_moved c.first) c.seg.p0; end1 = maybe (is_moved c.second) c.seg.p1 }

-- the edges that are named for them
abbrev pub named_by : ClippedSeg → Edges
named_by c = record { first = c.first; second = c.second }

-- the ends are these points; one that moved lies in the box
pub record Brought (b : BBox) (l : List Pt) (e : Ends) : Type 0 where
  pub list : ends_of e ≡ l
  pub in0 : (q : Pt) → e.end0 ≡ Some q → clamped b q ≡ q
  pub in1 : (q : Pt) → e.end1 ≡ Some q → clamped b q ≡ q

-- so are those of a cut segment, with these edges
pub record BroughtBy (b : BBox) (l : List Pt) (n : Edges) (c : ClippedSeg) : Type 0 where
  pub points : Brought b l (ends_in c)
  pub names : named_by c ≡ n
