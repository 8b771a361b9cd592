-- Segment and box moved by one step (specs/Laws): every test is of two numbers that move alike, what is rounded is an offset, which moving leaves alone, and the clip moves with them: `clip_moved`.
use mathlib.Core.Path.{◌≡◌, refl, sym, ◌∙◌, ap, subst}
use mathlib.Core.Bool.{Bool, true, false, cond, ◌&&◌}
use mathlib.Core.List.{List, [], ◌∷◌}
use lib.IntN.{ℤ, ◌+ℤ◌, ◌-ℤ◌, ◌*ℤ◌}
use lib.Signed.{◌≤ℤ◌, ◌<ℤ◌, lt_z, le_z}
use Rattle.whole.proofs.Parts.{zarith, +-parts}
use Rattle.whole.proofs.Machine.{lt_yes, le_yes}
use Rattle.whole.proofs.Cases.{lt_is, le_is}
use Rattle.whole.proofs.Auto.{reads, ring! }
use Rattle.clip.specs.declared.Pt.{Pt}
use Rattle.clip.specs.declared.Seg.{Seg}
use Rattle.clip.specs.declared.BBox.{BBox}
use Rattle.clip.specs.declared.Edge.{Edge}
use Rattle.clip.specs.declared.Edge.TheVariants.{XMin, XMax, YMin, YMax}
use Rattle.clip.specs.declared.ClippedSeg.{ClippedSeg}
use Rattle.clip.specs.Rounding.{round}
use Rattle.clip.specs.Cutting.{Crossing, Missing, At, least, most, height, in_range, reaches, cross_in_order, cross_at_x, cross_at_y, swap, swapped, given, replace, cut_x_min, cut_x_max, cut_y_min, cut_y_max, cuts, overlap, clip}
use Rattle.promise.proofs.Joined.{same, all_four}
use Rattle.clip.proofs.Ends.{Side, low, high, beyond}
use Rattle.clip.specs.Laws.{moved_pt, moved_seg, moved_box, moved_clip}

-- ---- tests of numbers that move alike
lt_moved : (x y u : ℤ) → lt_z (x +ℤ u) (y +ℤ u) ≡ lt_z x y
lt_moved x y u = same _ _
    (λ e. let h : (x +ℤ u) <ℤ (y +ℤ u) = lt_yes e in let k : x <ℤ y = omega (zarith, +-parts x u, +-parts y u) in lt_is k)
    (λ e. let h : x <ℤ y = lt_yes e in let k : (x +ℤ u) <ℤ (y +ℤ u) = omega (zarith, +-parts x u, +-parts y u) in lt_is k)

le_moved : (x y u : ℤ) → le_z (x +ℤ u) (y +ℤ u) ≡ le_z x y
le_moved x y u = same _ _
    (λ e. let h : (x +ℤ u) ≤ℤ (y +ℤ u) = le_yes e in let k : x ≤ℤ y = omega (zarith, +-parts x u, +-parts y u) in le_is k)
    (λ e. let h : x ≤ℤ y = le_yes e in let k : (x +ℤ u) ≤ℤ (y +ℤ u) = omega (zarith, +-parts x u, +-parts y u) in le_is k)

-- a choice by a test that stays
chosen : {A B : Type 0} (f : A → B) {x' y' : B} (x y : A) {s t : Bool} → s ≡ t → x' ≡ f x → y' ≡ f y → cond s x' y' ≡ f (cond t x y)
chosen f {x'} {y'} x y {s} {t} e g h = go t e
  where
    go : (t : Bool) → s ≡ t → cond s x' y' ≡ f (cond t x y)
    go true e = subst (λ (w : Bool). cond w x' y' ≡ f x) (sym e) g
    go false e = subst (λ (w : Bool). cond w x' y' ≡ f y) (sym e) h

most_moved : (m n u : ℤ) → most (m +ℤ u) (n +ℤ u) ≡ most m n +ℤ u
most_moved m n u = chosen (λ (z : ℤ). z +ℤ u) _ _ (le_moved m n u) refl refl

least_moved : (m n u : ℤ) → least (m +ℤ u) (n +ℤ u) ≡ least m n +ℤ u
least_moved m n u = chosen (λ (z : ℤ). z +ℤ u) _ _ (le_moved m n u) refl refl

-- and of the larger or the smaller of two
upto_most : (c m n u : ℤ) → le_z (c +ℤ u) (most (m +ℤ u) (n +ℤ u)) ≡ le_z c (most m n)
upto_most c m n u = ap (le_z (c +ℤ u)) (most_moved m n u) ∙ le_moved c (most m n) u

least_upto : (c m n u : ℤ) → le_z (least (m +ℤ u) (n +ℤ u)) (c +ℤ u) ≡ le_z (least m n) c
least_upto c m n u = ap (λ (z : ℤ). le_z z (c +ℤ u)) (least_moved m n u) ∙ le_moved (least m n) c u

-- ---- the crossing
height_moved : (x1 y1 x2 y2 x u v : ℤ) → height (x1 +ℤ u) (y1 +ℤ v) (x2 +ℤ u) (y2 +ℤ v) (x +ℤ u) ≡ height x1 y1 x2 y2 x +ℤ v
height_moved x1 y1 x2 y2 x u v =
    let ρ : List ℤ = u ∷ v ∷ x ∷ x1 ∷ y1 ∷ x2 ∷ y2 ∷ [] in
    let n : (y2 +ℤ v -ℤ (y1 +ℤ v)) *ℤ (x +ℤ u -ℤ (x1 +ℤ u)) ≡ (y2 -ℤ y1) *ℤ (x -ℤ x1) = ring! ρ (search reads depth 30) tt in
    let d : x2 +ℤ u -ℤ (x1 +ℤ u) ≡ x2 -ℤ x1 = ring! ρ (search reads depth 30) tt in
    (λ i. (y1 +ℤ v) +ℤ round (n i) (d i)) ∙ last (round ((y2 -ℤ y1) *ℤ (x -ℤ x1)) (x2 -ℤ x1))
  where
    last : (r : ℤ) → (y1 +ℤ v) +ℤ r ≡ (y1 +ℤ r) +ℤ v
    last r = ring! (y1 ∷ v ∷ r ∷ []) (search reads depth 30) tt

abbrev moved_crossing : ℤ → ℤ → Crossing → Crossing
moved_crossing u v Missing = Missing
moved_crossing u v (At p) = At (moved_pt u v p)

module _ (u v x a b : ℤ) where
  range_moved : (y : ℤ) → in_range (x +ℤ u) (a +ℤ v) (b +ℤ v) (y +ℤ v) ≡ moved_crossing u v (in_range x a b y)
  range_moved y = chosen (moved_crossing u v) (At (record { x = x; y = y })) Missing (λ i. le_moved a y v i && le_moved y b v i) refl refl

  reaches_moved : (p q : Pt) → reaches (moved_pt u v p) (moved_pt u v q) (x +ℤ u) (a +ℤ v) (b +ℤ v) ≡ reaches p q x a b
  reaches_moved p q = all_four (le_moved p.x x u) (le_moved x q.x u) (upto_most a p.y q.y v) (least_upto b p.y q.y v)

  in_order_moved : (p q : Pt) → cross_in_order (moved_pt u v p) (moved_pt u v q) (x +ℤ u) (a +ℤ v) (b +ℤ v) ≡ moved_crossing u v (cross_in_order p q x a b)
  in_order_moved p q =
      chosen (moved_crossing u v) (in_range x a b (height p.x p.y q.x q.y x)) Missing (reaches_moved p q) (
      ap (in_range (x +ℤ u) (a +ℤ v) (b +ℤ v)) (height_moved p.x p.y q.x q.y x u v) ∙ range_moved (height p.x p.y q.x q.y x)) refl

  crossing_moved : (p q : Pt) → cross_at_x (moved_pt u v p) (moved_pt u v q) (x +ℤ u) (a +ℤ v) (b +ℤ v) ≡ moved_crossing u v (cross_at_x p q x a b)
  unfolding cross_at_x
  crossing_moved p q =
      chosen (moved_crossing u v) _ _ (lt_moved p.x q.x u) (in_order_moved p q) (
      chosen (moved_crossing u v) (cross_in_order q p x a b) Missing (lt_moved q.x p.x u) (in_order_moved q p) refl)

swapped_moved : (u v : ℤ) (w : Crossing) → swapped (moved_crossing v u w) ≡ moved_crossing u v (swapped w)
swapped_moved u v Missing = refl
swapped_moved u v (At p) = refl

crossing_y_moved : (u v y a b : ℤ) (p q : Pt) → cross_at_y (moved_pt u v p) (moved_pt u v q) (y +ℤ v) (a +ℤ u) (b +ℤ u) ≡ moved_crossing u v (cross_at_y p q y a b)
crossing_y_moved u v y a b p q = ap swapped (crossing_moved v u y a b (swap p) (swap q)) ∙ swapped_moved u v (cross_at_x (swap p) (swap q) y a b)

-- ---- the cuts
moved_replace : (u v : ℤ) (e : Edge) (o o' : Bool) (c : ClippedSeg) (w : Crossing) → replace e o o' (moved_clip u v c) (moved_crossing u v w) ≡ moved_clip u v (replace e o o' c w)
moved_replace u v e o o' c Missing = refl
moved_replace u v e true o' c (At p) = refl
moved_replace u v e false true c (At p) = refl
moved_replace u v e false false c (At p) = refl

beyond_moved : (s : Side) (c x u : ℤ) → beyond s (c +ℤ u) (x +ℤ u) ≡ beyond s c x
beyond_moved low c x u = lt_moved x c u
beyond_moved high c x u = lt_moved c x u

module _ (u v : ℤ) (c : ClippedSeg) where
  abbrev p : Pt
  p = c.seg.p0

  abbrev q : Pt
  q = c.seg.p1

  module _ (s : Side) (e : Edge) where
    moved_x : (x a b : ℤ)
        → replace e (beyond s (x +ℤ u) (p.x +ℤ u)) (beyond s (x +ℤ u) (q.x +ℤ u)) (moved_clip u v c) (cross_at_x (moved_pt u v p) (moved_pt u v q) (x +ℤ u) (a +ℤ v) (b +ℤ v))
        ≡ moved_clip u v (replace e (beyond s x p.x) (beyond s x q.x) c (cross_at_x p q x a b))
    moved_x x a b =
        (λ i. replace e (beyond_moved s x p.x u i) (beyond_moved s x q.x u i) (moved_clip u v c) (crossing_moved u v x a b p q i)) ∙
        moved_replace u v e (beyond s x p.x) (beyond s x q.x) c (cross_at_x p q x a b)

    moved_y : (y a b : ℤ)
        → replace e (beyond s (y +ℤ v) (p.y +ℤ v)) (beyond s (y +ℤ v) (q.y +ℤ v)) (moved_clip u v c) (cross_at_y (moved_pt u v p) (moved_pt u v q) (y +ℤ v) (a +ℤ u) (b +ℤ u))
        ≡ moved_clip u v (replace e (beyond s y p.y) (beyond s y q.y) c (cross_at_y p q y a b))
    moved_y y a b =
        (λ i. replace e (beyond_moved s y p.y v i) (beyond_moved s y q.y v i) (moved_clip u v c) (crossing_y_moved u v y a b p q i)) ∙
        moved_replace u v e (beyond s y p.y) (beyond s y q.y) c (cross_at_y p q y a b)

  module _ (b : BBox) where
    x_min_moved : cut_x_min (moved_box u v b) (moved_clip u v c) ≡ moved_clip u v (cut_x_min b c)
    x_min_moved = moved_x low XMin b.x_min b.y_min b.y_max

    x_max_moved : cut_x_max (moved_box u v b) (moved_clip u v c) ≡ moved_clip u v (cut_x_max b c)
    x_max_moved = moved_x high XMax b.x_max b.y_min b.y_max

    y_min_moved : cut_y_min (moved_box u v b) (moved_clip u v c) ≡ moved_clip u v (cut_y_min b c)
    y_min_moved = moved_y low YMin b.y_min b.x_min b.x_max

    y_max_moved : cut_y_max (moved_box u v b) (moved_clip u v c) ≡ moved_clip u v (cut_y_max b c)
    y_max_moved = moved_y high YMax b.y_max b.x_min b.x_max

module _ (u v : ℤ) (b : BBox) (s : Seg) where
  cuts_moved : cuts (moved_box u v b) (moved_seg u v s) ≡ moved_clip u v (cuts b s)
  unfolding cuts
  cuts_moved =
      let m = moved_box u v b in
      let c1 = cut_x_min b (given s) in
      let c2 = cut_x_max b c1 in
      ap (λ (c : ClippedSeg). cut_y_max m (cut_y_min m (cut_x_max m c))) (x_min_moved u v (given s) b) ∙ ap (λ (c : ClippedSeg). cut_y_max m (cut_y_min m c)) (x_max_moved u v c1 b) ∙
      ap (cut_y_max m) (y_min_moved u v c2 b) ∙ y_max_moved u v (cut_y_min b c2) b

  overlap_moved : overlap (moved_box u v b) (moved_seg u v s) ≡ overlap b s
  unfolding overlap
  overlap_moved =
      let p = s.p0 in
      let q = s.p1 in
      all_four (upto_most b.x_min p.x q.x u) (least_upto b.x_max p.x q.x u) (upto_most b.y_min p.y q.y v) (least_upto b.y_max p.y q.y v)

  pub clip_moved : clip (moved_box u v b) (moved_seg u v s) ≡ moved_clip u v (clip b s)
  unfolding clip
  clip_moved = chosen (moved_clip u v) (cuts b s) (given s) overlap_moved cuts_moved refl
