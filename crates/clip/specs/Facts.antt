-- The tests of specs/Domain as facts, and what the private functions ask and answer. No public promise cites them.
-- That a test and its fact agree: `coord_facts`, `coord_is`, `good_facts`, `good_is` of proofs/Callers.
use Rattle.std.specs.Prelude.{Bool, ◌||◌, ℤ, neg_ℤ, ◌≤ℤ◌, ◌<ℤ◌}
use Rattle.std.specs.Int.Signed.{lt_z}
use Rattle.clip.specs.declared.Pt.{Pt}
use Rattle.clip.specs.declared.Seg.{Seg}
use Rattle.clip.specs.declared.BBox.{BBox}
use Rattle.clip.specs.declared.ClippedSeg.{ClippedSeg}
use Rattle.clip.specs.Domain.{limit}
use Rattle.clip.specs.Cutting.{least, most, swap_seg}

-- z lies within the limit
pub record Within (z : ℤ) : Type 0 where
  pub least : neg_ℤ limit ≤ℤ z
  pub most : z ≤ℤ limit

pub record Coord (p : Pt) : Type 0 where
  pub at_x : Within p.x
  pub at_y : Within p.y

pub record Good (b : BBox) : Type 0 where
  pub wide : b.x_min <ℤ b.x_max
  pub tall : b.y_min <ℤ b.y_max
  pub left : Within b.x_min
  pub right : Within b.x_max
  pub bottom : Within b.y_min
  pub top : Within b.y_max

-- what the rounded crossing at x of the line from (x1, y1) to (x2, y2) is asked of
pub record Asked (x1 y1 x2 y2 x : ℤ) : Type 0 where
  pub in_x1 : Within x1
  pub in_y1 : Within y1
  pub in_x2 : Within x2
  pub in_y2 : Within y2
  pub from : x1 ≤ℤ x
  pub to : x ≤ℤ x2
  pub apart : x1 <ℤ x2

-- two numbers lie both below a range, or both above it
unfoldable pub beside : ℤ → ℤ → ℤ → ℤ → Bool
beside m n low high = lt_z (most m n) low || lt_z high (least m n)

-- so do the ends of a segment, in x and in y
unfoldable pub beside_x : BBox → Seg → Bool
beside_x b s = beside s.p0.x s.p1.x b.x_min b.x_max

unfoldable pub beside_y : BBox → Seg → Bool
beside_y b s = beside s.p0.y s.p1.y b.y_min b.y_max

-- x and y change roles; the names stay
abbrev pub swap_clipped : ClippedSeg → ClippedSeg
swap_clipped c = record { seg = swap_seg c.seg; first = c.first; second = c.second }
