-- DEMAND 3: what clipping does to a segment, said of the box, of the segment as given and of the segment after clipping.
--   (a) If the exact segment has a point in the closed box, both ends after clipping lie in the box.
--   (b) Whether it has one or not, an end that clipping moved lies on the box's edge and is less than one from some point of the exact segment as given,
-- in x and in y.
--   (c) Other ends stay as given.
--   (d) The edge that is named for an end that clipping moved holds the end (document 02, request (v)); an end that stays has none named.
-- The points of the exact segment are fractions. Document 01 gives each by two whole numbers k and d, 0 ≤ k ≤ d and d > 0: it lies at the share k / d of
-- the way from p0 to p1, so that
-- d times its x is d·x0 + k·(x1 - x0), and d times its y is d·y0 + k·(y1 - y0). The box and the ends are multiplied by d to be compared with it, and
-- "less than one" reads less than d.
-- It is the clause `demand3` of clip's promise; `demand_3` of proofs/Demands is the theorem about the definition, for every segment and every box with
-- x_min < x_max and y_min < y_max.
use Rattle.std.specs.Prelude.{◌⊎◌, ◌≡◌, ℤ, pos, ◌+ℤ◌, ◌-ℤ◌, ◌*ℤ◌, ◌≤ℤ◌, ◌<ℤ◌}
use Rattle.clip.specs.declared.Pt.{Pt}
use Rattle.clip.specs.declared.Seg.{Seg}
use Rattle.clip.specs.declared.BBox.{BBox}
use Rattle.clip.specs.declared.ClippedSeg.{ClippedSeg}
use Rattle.clip.specs.declared.Edge.{Edge}
use Rattle.clip.specs.declared.Edge.TheVariants.{Stayed, XMin, XMax, YMin, YMax}

-- k and d name a point of the exact segment
pub record Share (k d : ℤ) : Type 0 where
  pub from : pos 0 ≤ℤ k
  pub to : k ≤ℤ d
  pub some : pos 0 <ℤ d

-- d times the coordinate of that point, of a segment whose ends have the coordinates u and v
abbrev pub along : ℤ → ℤ → ℤ → ℤ → ℤ
along d k u v = d *ℤ u +ℤ k *ℤ (v -ℤ u)

-- p lies in the closed box
pub record Inside (b : BBox) (p : Pt) : Type 0 where
  pub left : b.x_min ≤ℤ p.x
  pub right : p.x ≤ℤ b.x_max
  pub bottom : b.y_min ≤ℤ p.y
  pub top : p.y ≤ℤ b.y_max

-- p lies on the box's edge: in the closed box, and on one of its four sides
pub record OnEdge (b : BBox) (p : Pt) : Type 0 where
  pub inside : Inside b p
  pub edge : ((p.x ≡ b.x_min) ⊎ (p.x ≡ b.x_max)) ⊎ ((p.y ≡ b.y_min) ⊎ (p.y ≡ b.y_max))

-- the exact segment has a point in the closed box
pub record Meets (b : BBox) (s : Seg) : Type 0 where
  pub k : ℤ
  pub d : ℤ
  pub share : Share k d
  pub left : (d *ℤ b.x_min) ≤ℤ along d k s.p0.x s.p1.x
  pub right : along d k s.p0.x s.p1.x ≤ℤ (d *ℤ b.x_max)
  pub bottom : (d *ℤ b.y_min) ≤ℤ along d k s.p0.y s.p1.y
  pub top : along d k s.p0.y s.p1.y ≤ℤ (d *ℤ b.y_max)

-- u and v are less than d apart
pub record LessThan (d u v : ℤ) : Type 0 where
  pub below : (v -ℤ d) <ℤ u
  pub above : u <ℤ (v +ℤ d)

-- some point of the exact segment is less than one from p in x and less than one from p in y
pub record Near (s : Seg) (p : Pt) : Type 0 where
  pub k : ℤ
  pub d : ℤ
  pub share : Share k d
  pub in_x : LessThan d (d *ℤ p.x) (along d k s.p0.x s.p1.x)
  pub in_y : LessThan d (d *ℤ p.y) (along d k s.p0.y s.p1.y)

-- p lies strictly outside that edge
abbrev pub Passed : Edge → BBox → Pt → Type 0
Passed Stayed b p = ⊥
Passed XMin b p = p.x <ℤ b.x_min
Passed XMax b p = b.x_max <ℤ p.x
Passed YMin b p = p.y <ℤ b.y_min
Passed YMax b p = b.y_max <ℤ p.y

-- the line of that edge holds p
abbrev pub Holds : Edge → BBox → Pt → Type 0
Holds Stayed b p = ⊥
Holds XMin b p = p.x ≡ b.x_min
Holds XMax b p = p.x ≡ b.x_max
Holds YMin b p = p.y ≡ b.y_min
Holds YMax b p = p.y ≡ b.y_max

-- (b) an end that was moved lies on the box's edge, and less than one from the exact segment as given; (d) the named edge is one that the end as given
-- has strictly passed, and holds the end after clipping
pub record Moved (b : BBox) (s : Seg) (given after : Pt) (named : Edge) : Type 0 where
  pub edge : OnEdge b after
  pub near : Near s after
  pub passed : Passed named b given
  pub holds : Holds named b after

-- (c) an end that is said to have stayed is as given
pub record Kept (given after : Pt) (named : Edge) : Type 0 where
  pub stayed : named ≡ Stayed
  pub same : after ≡ given

-- (b), (c) and (d) of one end: it stays as given, or it was moved so
abbrev pub Placed : BBox → Seg → Pt → Pt → Edge → Type 0
Placed b s given after named = Kept given after named ⊎ Moved b s given after named

-- the whole demand: (a) of each end, where the exact segment has a point in the closed box; (b), (c) and (d) of each end, whether it has one or not
pub record Demand3 (b : BBox) (given : Seg) (after : ClippedSeg) : Type 0 where
  pub inside0 : Meets b given → Inside b after.seg.p0
  pub inside1 : Meets b given → Inside b after.seg.p1
  pub placed0 : Placed b given given.p0 after.seg.p0 after.first
  pub placed1 : Placed b given given.p1 after.seg.p1 after.second
