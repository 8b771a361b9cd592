-- Document 01, "Adding a point": a point that may be missing, and what the encoder asks of points: within the limit, clamped to the box, equal to the
-- last one, the last one between two others.
use Rattle.std.specs.Prelude.{ℕ, Bool, true, false, cond, ◌&&◌, ◌||◌, leb, eqb, ℤ, pos, Option, Some, None}
use Rattle.std.specs.Int.Signed.{lt_z}
use Rattle.whole.specs.Equal.{eq_z}
use Rattle.clip.specs.declared.Pt.{Pt}
use Rattle.clip.specs.declared.BBox.{BBox}
use Rattle.clip.specs.Domain.{is_coord}

-- a stored point would not be refused as COORD
abbrev pub in_limit : Option Pt → Bool
in_limit None = true
in_limit (Some p) = is_coord p

abbrev pub in_limits : Option Pt → Option Pt → Option Pt → Bool
in_limits l m n = in_limit l && in_limit m && in_limit n

-- ---- "Clamp to the box."
abbrev pub clamp_to : ℤ → ℤ → ℤ → ℤ
clamp_to lo hi z = cond (lt_z z lo) lo (cond (lt_z hi z) hi z)

abbrev pub clamped : BBox → Pt → Pt
clamped b p = record { x = clamp_to b.x_min b.x_max p.x; y = clamp_to b.y_min b.y_max p.y }

-- ---- "If equal to the last emitted point"
abbrev pub same_pt : Pt → Pt → Bool
same_pt p q = eq_z p.x q.x && eq_z p.y q.y

abbrev pub is_last : Option Pt → Pt → Bool
is_last None p = false
is_last (Some q) p = same_pt q p

-- ---- "strictly between the one before and the new one on one horizontal or vertical"
abbrev pub strictly : ℤ → ℤ → ℤ → Bool
strictly a m b = (lt_z a m && lt_z m b) || (lt_z b m && lt_z m a)

abbrev pub between : Pt → Pt → Pt → Bool
between a m b =
    (eq_z a.x m.x && eq_z m.x b.x && strictly a.y m.y b.y) ||
    (eq_z a.y m.y && eq_z m.y b.y && strictly a.x m.x b.x)

abbrev pub last_between : Option Pt → Option Pt → Pt → Bool
last_between (Some a) (Some m) b = between a m b
last_between (Some a) None b = false
last_between None m b = false

-- "Polygons with count ≥ 2"
abbrev pub out_before : ℕ → ℕ → Option Pt → Option Pt → Pt → Bool
out_before kind count before last p = eqb kind 3 && leb 2 count && last_between before last p

-- ---- "from the last emitted point (0, 0 at the start)"
abbrev pub last_of : Option Pt → Pt
last_of None = record { x = pos 0; y = pos 0 }
last_of (Some p) = p

-- no point
abbrev pub missing : Option Pt → Bool
missing None = true
missing (Some p) = false
