-- A segment by its ends or its numbers, a box by its numbers or its lower and its upper corner, the number of what became of an end, and whether it was moved.
use Rattle.std.specs.Prelude.{ℕ, Bool, true, false, ℤ}
use Rattle.clip.specs.declared.Pt.{Pt}
use Rattle.clip.specs.declared.Seg.{Seg}
use Rattle.clip.specs.declared.BBox.{BBox}
use Rattle.clip.specs.declared.Edge.{Edge}
use Rattle.clip.specs.declared.Edge.TheVariants.{Stayed, XMin, XMax, YMin, YMax}

abbrev pub between : Pt → Pt → Seg
between p0 p1 = record { p0 = p0; p1 = p1 }

abbrev pub seg_at : ℤ → ℤ → ℤ → ℤ → Seg
seg_at x0 y0 x1 y1 = between (record { x = x0; y = y0 }) (record { x = x1; y = y1 })

abbrev pub box_at : ℤ → ℤ → ℤ → ℤ → BBox
box_at left right bottom top = record { x_min = left; x_max = right; y_min = bottom; y_max = top }

abbrev pub cornered : Pt → Pt → BBox
cornered low high = box_at low.x high.x low.y high.y

-- document 02, request (v): "not moved, or moved to x_min, x_max, y_min or y_max", in the order of document 01's cuts
abbrev pub edge_number : Edge → ℕ
edge_number Stayed = 0
edge_number XMin = 1
edge_number XMax = 2
edge_number YMin = 3
edge_number YMax = 4

abbrev pub is_moved : Edge → Bool
is_moved Stayed = false
is_moved XMin = true
is_moved XMax = true
is_moved YMin = true
is_moved YMax = true
