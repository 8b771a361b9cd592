-- Document 01, "Domain", and the conditions of BOX and COORD in "Refusals by number": which points and which boxes a call takes.
use Rattle.std.specs.Prelude.{Bool, ◌&&◌, ℤ, pos, neg_ℤ}
use Rattle.std.specs.Int.Signed.{lt_z, le_z}
use Rattle.clip.specs.declared.Pt.{Pt}
use Rattle.clip.specs.declared.BBox.{BBox}

-- the largest coordinate, and the largest box edge; the least is its opposite
abbrev pub limit : ℤ
limit = pos 1073741823

-- z lies within the limit
abbrev pub within : ℤ → Bool
within z = le_z (neg_ℤ limit) z && le_z z limit

-- COORD is refused exactly where this is false: x or y beyond the limit
unfoldable pub is_coord : Pt → Bool
is_coord p = within p.x && within p.y

-- p lies in the closed box
unfoldable pub is_inside : BBox → Pt → Bool
is_inside b p = le_z b.x_min p.x && le_z p.x b.x_max && (le_z b.y_min p.y && le_z p.y b.y_max)

-- BOX is refused exactly where this is false: x_min ≥ x_max, y_min ≥ y_max, or an edge beyond the limit
unfoldable pub is_good : BBox → Bool
is_good b =
    lt_z b.x_min b.x_max && lt_z b.y_min b.y_max &&
    (within b.x_min && within b.x_max) && (within b.y_min && within b.y_max)
