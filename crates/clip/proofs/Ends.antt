-- The cuts seen from each end: what becomes of the end p of a segment from p to q at an edge. Document 01 finds the crossing once and lets it replace the one end strictly outside; here each end
-- asks for itself. That the two give the same segment is proved in proofs/Readings. So the proofs of demand 3 speak of one end, and of the edges of x alone: those of y are these with x and y exchanged.
use mathlib.Core.Bool.{Bool, cond}
use lib.IntN.{ℤ}
use lib.Signed.{◌<ℤ◌, lt_z}
use Rattle.clip.specs.declared.Pt.{Pt}
use Rattle.clip.specs.declared.Seg.{Seg}
use Rattle.clip.specs.declared.BBox.{BBox}
use Rattle.clip.specs.Cutting.{Crossing, Missing, At, cross_at_x, swap_seg}

-- the lower or the upper one of two edges
pub data Side : Type 0 where
  low high : Side

abbrev pub edge : Side → BBox → ℤ
edge low b = b.x_min
edge high b = b.x_max

abbrev pub beyond : Side → ℤ → ℤ → Bool
beyond low c x = lt_z x c
beyond high c x = lt_z c x

abbrev pub put : Pt → Crossing → Pt
put p Missing = p
put p (At r) = r

-- what becomes of the end p of the segment from p to q, at the edge of that side
unfoldable pub move : Side → BBox → Pt → Pt → Pt
move s b p q = cond (beyond s (edge s b) p.x) (put p (cross_at_x p q (edge s b) b.y_min b.y_max)) p

abbrev pub join : Pt → Pt → Seg
join p q = record { p0 = p; p1 = q }

abbrev pub ends_x : Side → BBox → Seg → Seg
ends_x s b t = join (move s b t.p0 t.p1) (move s b t.p1 t.p0)

-- x and y change roles
abbrev pub swap_box : BBox → BBox
swap_box b = record { x_min = b.y_min; x_max = b.y_max; y_min = b.x_min; y_max = b.x_max }

abbrev pub ends_y : Side → BBox → Seg → Seg
ends_y s b t = swap_seg (ends_x s (swap_box b) (swap_seg t))

abbrev pub ends : BBox → Seg → Seg
ends b t = ends_y high b (ends_y low b (ends_x high b (ends_x low b t)))

-- all that is asked of the box
pub record Proper (b : BBox) : Type 0 where
  pub wide : b.x_min <ℤ b.x_max
  pub tall : b.y_min <ℤ b.y_max

pub swap_proper : {b : BBox} → Proper b → Proper (swap_box b)
swap_proper h = record { wide = h.tall; tall = h.wide }
