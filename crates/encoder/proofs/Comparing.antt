-- Laws of points: what the code's tests of signed numbers, which go by their bits, say of the numbers; clamping.
use mathlib.Core.Path.{◌≡◌}
use mathlib.Core.Bool.{Bool, true, false, ◌&&◌, ◌||◌}
use lib.Dec.{eqb}
use lib.IntN.{ℤ}
use lib.Signed.{lt_z}
use mir.Syntax.{w32}
use mir.Val.{SFits, of_z, to_z}
use mir.Facts.{to_z-of_z}
use Rattle.whole.specs.Equal.{eq_z}
use Rattle.whole.proofs.Equal.{eq_bits}
use Rattle.clip.specs.declared.Pt.{Pt}
use Rattle.clip.specs.declared.BBox.{BBox}
use Rattle.encoder.specs.Points.{clamp_to, clamped, strictly, between}

-- ---- a point between two others, by what the code computes of it
module _ (a m b : Pt) (ax : SFits w32 a.x) (ay : SFits w32 a.y) (mx : SFits w32 m.x) (my : SFits w32 m.y) (bx : SFits w32 b.x) (by' : SFits w32 b.y) where
  pub between_is : (u v : Bool) →
      u ≡ strictly (to_z w32 (of_z w32 a.y)) (to_z w32 (of_z w32 m.y)) (to_z w32 (of_z w32 b.y)) →
      v ≡ strictly (to_z w32 (of_z w32 a.x)) (to_z w32 (of_z w32 m.x)) (to_z w32 (of_z w32 b.x)) →
      ((eqb (of_z w32 a.x) (of_z w32 m.x) && eqb (of_z w32 m.x) (of_z w32 b.x) && u) || (eqb (of_z w32 a.y) (of_z w32 m.y) && eqb (of_z w32 m.y) (of_z w32 b.y) && v)) ≡ between a m b
  between_is u v e f =
      let e' : u ≡ strictly a.y m.y b.y = rw (to_z-of_z ay, to_z-of_z my, to_z-of_z by') at e in
      let f' : v ≡ strictly a.x m.x b.x = rw (to_z-of_z ax, to_z-of_z mx, to_z-of_z bx) at f in
      rw (eq_bits ax mx, eq_bits mx bx, eq_bits ay my, eq_bits my by', e', f')

-- a clamped coordinate, by what the code hands over and gets back
clamp_back : {lo hi z r : ℤ} → SFits w32 lo → SFits w32 hi → SFits w32 z → r ≡ clamp_to (to_z w32 (of_z w32 lo)) (to_z w32 (of_z w32 hi)) (to_z w32 (of_z w32 z)) → r ≡ clamp_to lo hi z
clamp_back fl fh fz e = rw (to_z-of_z fl, to_z-of_z fh, to_z-of_z fz) at e

module _ (b : BBox) (p : Pt) (x y : ℤ) (fx : SFits w32 x) (fy : SFits w32 y) (l : SFits w32 b.x_min) (r : SFits w32 b.x_max) (d : SFits w32 b.y_min) (u : SFits w32 b.y_max) (px : SFits w32 p.x) (py : SFits w32 p.y) where
  pub made-point :
      x ≡ clamp_to (to_z w32 (of_z w32 b.x_min)) (to_z w32 (of_z w32 b.x_max)) (to_z w32 (of_z w32 p.x)) →
      y ≡ clamp_to (to_z w32 (of_z w32 b.y_min)) (to_z w32 (of_z w32 b.y_max)) (to_z w32 (of_z w32 p.y)) →
      ◌≡◌ {A = Pt} (record { x = to_z w32 (of_z w32 x); y = to_z w32 (of_z w32 y) }) (clamped b p)
  made-point e f = rw (to_z-of_z fx, to_z-of_z fy, clamp_back l r px e, clamp_back d u py f)
