-- Document 01, "Sample jobs": the values at the limit and one beyond, each computed from the definition. (The three P clips stand with the other P
-- samples, in crate `samples`.)
use Rattle.std.specs.Prelude.{◌≡◌, refl, List, [], ◌∷◌, ℤ, pos, negsuc}
use Rattle.refusal.specs.Said.{Said, accepted}
use Rattle.clip.specs.declared.Seg.{Seg}
use Rattle.clip.specs.declared.BBox.{BBox}
use Rattle.clip.specs.declared.ClippedSeg.{ClippedSeg}
use Rattle.clip.specs.declared.Edge.TheVariants.{XMax}
use Rattle.clip.specs.Domain.{is_coord, is_good}
use Rattle.clip.specs.Cutting.{cross_at_x, given, second_to, cuts, overlap, clip}
use Rattle.clip.specs.Answer.{clipped}

abbrev pub from : ℤ → ℤ → ℤ → ℤ → Seg
from x0 y0 x1 y1 = record { p0 = record { x = x0; y = y0 }; p1 = record { x = x1; y = y1 } }

abbrev pub box : ℤ → ℤ → BBox
box lo hi = record { x_min = lo; x_max = hi; y_min = lo; y_max = hi }

abbrev pub ten : BBox
ten = box (pos 0) (pos 10)

abbrev pub done : Seg → Said (List ClippedSeg)
done s = accepted (given s ∷ [])

-- an edge and a coordinate at the limit are accepted, one further they are refused as 3 and as 5; a box 0..0 is refused as 3
abbrev pub in_ten : Seg
in_ten = from (pos 1) (pos 1) (pos 2) (pos 2)

abbrev pub far_ten : Seg
far_ten = from (pos 1) (pos 1) (pos 1073741823) (pos 1)

pub edge_at_limit : clipped in_ten (box (negsuc 1073741822) (pos 1073741823)) ≡ done in_ten
unfolding clipped is_good is_coord clip overlap cuts cross_at_x
edge_at_limit = refl

pub edge_beyond : (clipped in_ten (box (pos 0) (pos 1073741824))).number ≡ 3
unfolding clipped is_good
edge_beyond = refl

pub coord_at_limit : clipped far_ten ten ≡ accepted (second_to XMax (record { x = pos 10; y = pos 1 }) (given far_ten) ∷ [])
unfolding clipped is_good is_coord clip overlap cuts cross_at_x
coord_at_limit = refl

pub coord_beyond : (clipped (from (pos 1) (pos 1) (pos 1073741824) (pos 1)) ten).number ≡ 5
unfolding clipped is_good is_coord
coord_beyond = refl

pub flat_box : (clipped in_ten (box (pos 0) (pos 0))).number ≡ 3
unfolding clipped is_good
flat_box = refl
