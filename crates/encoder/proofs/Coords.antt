-- Points within the limit: the last point, and a point clamped to a good box. For callers.
use Rattle.std.specs.Prelude.{Option, Some, None, unwrap_or}
use mathlib.Core.Path.{◌≡◌, refl}
use mathlib.Core.Bool.{Bool, true, false, cond}
use lib.IntN.{ℤ, pos}
use lib.Signed.{◌≤ℤ◌, ◌<ℤ◌, lt_z, le_z_yes}
use Rattle.whole.proofs.Parts.{zarith}
use Rattle.whole.proofs.Machine.{lt_no}
use Rattle.clip.specs.declared.Pt.{Pt}
use Rattle.clip.specs.declared.BBox.{BBox}
use Rattle.clip.specs.Domain.{is_good}
use Rattle.clip.specs.Facts.{Within, Coord}
use Rattle.clip.proofs.Callers.{coord_facts, good_facts}
use Rattle.encoder.specs.Points.{in_limit, clamp_to, clamped, last_of}

within_nought : Within (pos 0)
within_nought = record { least = le_z_yes tt; most = le_z_yes tt }

pub last_is : (m : Option Pt) → unwrap_or m (record { x = pos 0; y = pos 0 }) ≡ last_of m
last_is None = refl
last_is (Some p) = refl

pub last_coord : (m : Option Pt) → in_limit m ≡ true → Coord (last_of m)
last_coord None e = record { at_x = within_nought; at_y = within_nought }
last_coord (Some p) e = coord_facts e

clamp_within : (lo hi z : ℤ) → Within lo → Within hi → lo <ℤ hi → Within (clamp_to lo hi z)
clamp_within lo hi z l h o = go (lt_z z lo) refl
  where
    above : lo ≤ℤ z → (t : Bool) → lt_z hi z ≡ t → Within (cond t hi z)
    above k true e = h
    above k false e = let n : z ≤ℤ hi = lt_no e in record { least = omega (zarith, l.least, k); most = omega (zarith, h.most, n) }

    go : (t : Bool) → lt_z z lo ≡ t → Within (cond t lo (cond (lt_z hi z) hi z))
    go true e = l
    go false e = above (lt_no e) (lt_z hi z) refl

pub clamped_coord : (b : BBox) (p : Pt) → is_good b ≡ true → Coord (clamped b p)
clamped_coord b p e =
    let g = good_facts e in
    record {
      at_x = clamp_within b.x_min b.x_max p.x g.left g.right g.wide;
      at_y = clamp_within b.y_min b.y_max p.y g.bottom g.top g.tall;
    }
