-- Document 01, "Cutting a segment", in its order: the crossing at x, the crossing at y, the four cuts; and `bounded_by` as document 01 takes it
-- ("Modules, leaves first").
-- "A crossing replaces the end strictly outside that edge, if one is" is read so: the crossing is found once, p0 is asked before p1. That each end may
-- ask for itself, with the same result,
-- is `cuts_are_ends` of proofs/Readings; that the overlap test changes no answer is `clip_cuts` of proofs/Overlaps.
use Rattle.std.specs.Prelude.{Bool, cond, ◌&&◌, ℤ, ◌+ℤ◌, ◌-ℤ◌, ◌*ℤ◌}
use Rattle.std.specs.Int.Signed.{lt_z, le_z}
use Rattle.clip.specs.declared.Pt.{Pt}
use Rattle.clip.specs.declared.Seg.{Seg}
use Rattle.clip.specs.declared.BBox.{BBox}
use Rattle.std.specs.Prelude.{Option, Some, None}
use Rattle.clip.specs.declared.ClippedSeg.{ClippedSeg}
use Rattle.clip.specs.declared.Edge.{Edge}
use Rattle.clip.specs.declared.Edge.TheVariants.{Stayed, XMin, XMax, YMin, YMax}
use Rattle.clip.specs.Rounding.{round}

-- the smaller and the larger of two numbers
abbrev pub least : ℤ → ℤ → ℤ
least m n = cond (le_z m n) m n

abbrev pub most : ℤ → ℤ → ℤ
most m n = cond (le_z m n) n m

-- the y at x of the line from (x1, y1) to (x2, y2), x1 < x2, rounded
abbrev pub height : ℤ → ℤ → ℤ → ℤ → ℤ → ℤ
height x1 y1 x2 y2 x = y1 +ℤ round ((y2 -ℤ y1) *ℤ (x -ℤ x1)) (x2 -ℤ x1)

-- where a segment crosses an edge's line, if it does
pub data Crossing : Type 0 where
  Missing : Crossing
  At : Pt → Crossing

-- a y outside [a, b] is no crossing
abbrev pub in_range : ℤ → ℤ → ℤ → ℤ → Crossing
in_range x a b y = cond (le_z a y && le_z y b) (At (record { x = x; y = y })) Missing

-- p left of q: x does not lie outside them, and the segment's y range does not miss [a, b]
abbrev pub reaches : Pt → Pt → ℤ → ℤ → ℤ → Bool
reaches p q x a b = le_z p.x x && le_z x q.x && (le_z a (most p.y q.y) && le_z (least p.y q.y) b)

abbrev pub cross_in_order : Pt → Pt → ℤ → ℤ → ℤ → Crossing
cross_in_order p q x a b = cond (reaches p q x a b) (in_range x a b (height p.x p.y q.x q.y x)) Missing

-- at x, with the ends put in order of x; none if they share one x
unfoldable pub cross_at_x : Pt → Pt → ℤ → ℤ → ℤ → Crossing
cross_at_x p q x a b = cond (lt_z p.x q.x) (cross_in_order p q x a b) (cond (lt_z q.x p.x) (cross_in_order q p x a b) Missing)

-- at y: x and y change roles
abbrev pub swap : Pt → Pt
swap p = record { x = p.y; y = p.x }

abbrev pub swapped : Crossing → Crossing
swapped Missing = Missing
swapped (At p) = At (swap p)

abbrev pub swap_seg : Seg → Seg
swap_seg s = record { p0 = swap s.p0; p1 = swap s.p1 }

abbrev pub cross_at_y : Pt → Pt → ℤ → ℤ → ℤ → Crossing
cross_at_y p q y a b = swapped (cross_at_x (swap p) (swap q) y a b)

-- the code's answer for the line at x: a crossing by its y
abbrev pub met_at : ℤ → Option ℤ → Crossing
met_at x None = Missing
met_at x (Some y) = At (record { x = x; y = y })

-- a segment as given: no end is moved
abbrev pub given : Seg → ClippedSeg
given s = record { seg = s; first = Stayed; second = Stayed }

-- an end moved to p, by the cut at that edge
abbrev pub first_to : Edge → Pt → ClippedSeg → ClippedSeg
first_to e p c = record { seg = record { p0 = p; p1 = c.seg.p1 }; first = e; second = c.second }

abbrev pub second_to : Edge → Pt → ClippedSeg → ClippedSeg
second_to e p c = record { seg = record { p0 = c.seg.p0; p1 = p }; first = c.first; second = e }

-- a crossing replaces the end strictly outside that edge, if one is: out0 and out1 say whether p0 and p1 are. The edge is named for the end that it moves
abbrev pub replace : Edge → Bool → Bool → ClippedSeg → Crossing → ClippedSeg
replace e out0 out1 c Missing = c
replace e out0 out1 c (At p) = cond out0 (first_to e p c) (cond out1 (second_to e p c) c)

abbrev pub cut_x_min : BBox → ClippedSeg → ClippedSeg
cut_x_min b c =
    replace XMin (lt_z c.seg.p0.x b.x_min) (lt_z c.seg.p1.x b.x_min) c
    (cross_at_x c.seg.p0 c.seg.p1 b.x_min b.y_min b.y_max)

abbrev pub cut_x_max : BBox → ClippedSeg → ClippedSeg
cut_x_max b c =
    replace XMax (lt_z b.x_max c.seg.p0.x) (lt_z b.x_max c.seg.p1.x) c
    (cross_at_x c.seg.p0 c.seg.p1 b.x_max b.y_min b.y_max)

abbrev pub cut_y_min : BBox → ClippedSeg → ClippedSeg
cut_y_min b c =
    replace YMin (lt_z c.seg.p0.y b.y_min) (lt_z c.seg.p1.y b.y_min) c
    (cross_at_y c.seg.p0 c.seg.p1 b.y_min b.x_min b.x_max)

abbrev pub cut_y_max : BBox → ClippedSeg → ClippedSeg
cut_y_max b c =
    replace YMax (lt_z b.y_max c.seg.p0.y) (lt_z b.y_max c.seg.p1.y) c
    (cross_at_y c.seg.p0 c.seg.p1 b.y_max b.x_min b.x_max)

-- at x_min, x_max, y_min, y_max in this order, each on the segment as it then is
unfoldable pub cuts : BBox → Seg → ClippedSeg
cuts b s = cut_y_max b (cut_y_min b (cut_x_max b (cut_x_min b (given s))))

-- whether the segment's bounding rectangle and the box overlap, edges counted (`bounded_by`)
unfoldable pub overlap : BBox → Seg → Bool
overlap b s =
    le_z b.x_min (most s.p0.x s.p1.x) && le_z (least s.p0.x s.p1.x) b.x_max &&
    (le_z b.y_min (most s.p0.y s.p1.y) && le_z (least s.p0.y s.p1.y) b.y_max)

-- without overlap the segment as given
unfoldable pub clip : BBox → Seg → ClippedSeg
clip b s = cond (overlap b s) (cuts b s) (given s)
