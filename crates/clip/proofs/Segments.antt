-- The cuts of the segment alone, without the names of the edges: what they make of it is what the definition's cuts make of its segment (`seg_cuts_lem`). The proofs of demand 3 but (d) speak of these.
use mathlib.Core.Path.{◌≡◌, refl, ◌∙◌, ap}
use mathlib.Core.Bool.{Bool, true, false, cond}
use lib.Signed.{lt_z}
use Rattle.clip.specs.declared.Seg.{Seg}
use Rattle.clip.specs.declared.BBox.{BBox}
use Rattle.clip.specs.declared.Edge.{Edge}
use Rattle.clip.specs.declared.ClippedSeg.{ClippedSeg}
use Rattle.clip.specs.Cutting.{Crossing, Missing, At, cross_at_x, cross_at_y, given, replace, cut_x_min, cut_x_max, cut_y_min, cut_y_max, cuts}

-- the crossing replaces the end strictly outside, if one is: the definition's `replace` makes the same of its segment (`seg_replace`)
abbrev pub replace_seg : Bool → Bool → Seg → Crossing → Seg
replace_seg out0 out1 s Missing = s
replace_seg out0 out1 s (At p) = cond out0 (record { p0 = p; p1 = s.p1 }) (cond out1 (record { p0 = s.p0; p1 = p }) s)

abbrev pub seg_x_min : BBox → Seg → Seg
seg_x_min b s = replace_seg (lt_z s.p0.x b.x_min) (lt_z s.p1.x b.x_min) s (cross_at_x s.p0 s.p1 b.x_min b.y_min b.y_max)

abbrev pub seg_x_max : BBox → Seg → Seg
seg_x_max b s = replace_seg (lt_z b.x_max s.p0.x) (lt_z b.x_max s.p1.x) s (cross_at_x s.p0 s.p1 b.x_max b.y_min b.y_max)

abbrev pub seg_y_min : BBox → Seg → Seg
seg_y_min b s = replace_seg (lt_z s.p0.y b.y_min) (lt_z s.p1.y b.y_min) s (cross_at_y s.p0 s.p1 b.y_min b.x_min b.x_max)

abbrev pub seg_y_max : BBox → Seg → Seg
seg_y_max b s = replace_seg (lt_z b.y_max s.p0.y) (lt_z b.y_max s.p1.y) s (cross_at_y s.p0 s.p1 b.y_max b.x_min b.x_max)

unfoldable pub seg_cuts : BBox → Seg → Seg
seg_cuts b s = seg_y_max b (seg_y_min b (seg_x_max b (seg_x_min b s)))

pub seg_replace : (e : Edge) (u v : Bool) (c : ClippedSeg) (w : Crossing) → (replace e u v c w).seg ≡ replace_seg u v c.seg w
seg_replace e u v c Missing = refl
seg_replace e true v c (At p) = refl
seg_replace e false true c (At p) = refl
seg_replace e false false c (At p) = refl

module _ (b : BBox) (c : ClippedSeg) where
  pub seg_x_min_lem : (cut_x_min b c).seg ≡ seg_x_min b c.seg
  seg_x_min_lem = seg_replace _ _ _ c (cross_at_x c.seg.p0 c.seg.p1 b.x_min b.y_min b.y_max)

  pub seg_x_max_lem : (cut_x_max b c).seg ≡ seg_x_max b c.seg
  seg_x_max_lem = seg_replace _ _ _ c (cross_at_x c.seg.p0 c.seg.p1 b.x_max b.y_min b.y_max)

  pub seg_y_min_lem : (cut_y_min b c).seg ≡ seg_y_min b c.seg
  seg_y_min_lem = seg_replace _ _ _ c (cross_at_y c.seg.p0 c.seg.p1 b.y_min b.x_min b.x_max)

  pub seg_y_max_lem : (cut_y_max b c).seg ≡ seg_y_max b c.seg
  seg_y_max_lem = seg_replace _ _ _ c (cross_at_y c.seg.p0 c.seg.p1 b.y_max b.x_min b.x_max)

pub seg_cuts_lem : (b : BBox) (s : Seg) → (cuts b s).seg ≡ seg_cuts b s
unfolding cuts seg_cuts
seg_cuts_lem b s =
    let c1 = cut_x_min b (given s) in
    let c2 = cut_x_max b c1 in
    let c3 = cut_y_min b c2 in
    seg_y_max_lem b c3 ∙ ap (seg_y_max b) (seg_y_min_lem b c2 ∙ ap (seg_y_min b) (seg_x_max_lem b c1 ∙ ap (seg_x_max b) (seg_x_min_lem b (given s))))
