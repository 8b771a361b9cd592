-- What the cuts of src/cutting.rt return, over plain values: what the crossing is, which end it replaces by the code's tests, and that the four edges one after the other are the definition's clip.
use mathlib.Core.Path.{◌≡◌, refl, sym, ◌∙◌, ap, subst}
use mathlib.Core.Bool.{Bool, true, false, cond, ◌&&◌}
use lib.IntN.{ℤ}
use lib.Signed.{◌≤ℤ◌, ◌<ℤ◌, lt_z, le_z}
use Rattle.whole.proofs.Parts.{zarith}
use Rattle.whole.proofs.Laws.{<-≤}
use mir.Syntax.{w32}
use mir.Val.{to_z, of_z}
use Rattle.whole.proofs.Machine.{lt_yes, lt_no, le_yes, Back}
use Rattle.whole.proofs.Cases.{le_is, lt_is}
use Rattle.promise.proofs.Cases.{is_yes, is_no}
use Rattle.promise.proofs.Joined.{both, both_is}
use Rattle.clip.specs.declared.Pt.{Pt}
use Rattle.clip.specs.declared.Seg.{Seg}
use Rattle.clip.specs.declared.BBox.{BBox}
use Rattle.std.specs.Prelude.{Option, Some, None}
use Rattle.clip.specs.declared.Edge.{Edge}
use Rattle.clip.specs.declared.Edge.TheVariants.{XMin, XMax, YMin, YMax}
use Rattle.clip.specs.declared.ClippedSeg.{ClippedSeg}
use Rattle.clip.specs.Facts.{Coord, Good, Asked, swap_clipped}
use Rattle.clip.specs.Cutting.{Crossing, Missing, At, height, in_range, reaches, cross_in_order, cross_at_x, swap, swapped, swap_seg, met_at, given, replace, cut_x_max, cut_y_min, cut_y_max, cuts, clip}
use Rattle.clip.proofs.Segments.{seg_replace}
use Rattle.clip.proofs.Overlaps.{clip_cuts}
use Rattle.clip.proofs.Ends.{Side, low, high, beyond, ends_x, join, swap_box}
use Rattle.clip.proofs.Heights.{above_least, below_most}
use Rattle.clip.proofs.Readings.{at_x_min, at_x_max}
use Rattle.clip.proofs.Symmetry.{crossing_sym, none_beyond}
use Rattle.clip.proofs.Fates.{Fate, clear, moved, stuck, fate}
use Rattle.clip.proofs.Callers.{good_proper, inside_coord}

-- ---- the crossing, with p left of q and the line between them
module _ (p q : Pt) (c : ℤ) (cp : Coord p) (cq : Coord q) where
  asked : p.x ≤ℤ c → c ≤ℤ q.x → p.x <ℤ q.x → Asked p.x p.y q.x q.y c
  asked f t l = record { in_x1 = cp.at_x; in_y1 = cp.at_y; in_x2 = cq.at_x; in_y2 = cq.at_y; from = f; to = t; apart = l }

  -- p beyond the lower edge, or q beyond the upper one, and the other not
  pub asked_low : lt_z p.x c ≡ true → lt_z q.x c ≡ false → Asked p.x p.y q.x q.y c
  asked_low u v = let h : p.x <ℤ c = lt_yes u in let k : c ≤ℤ q.x = lt_no v in asked (<-≤ h) k (omega zarith)

  pub asked_high : lt_z c q.x ≡ true → lt_z c p.x ≡ false → Asked p.x p.y q.x q.y c
  asked_high u v = let h : c <ℤ q.x = lt_yes u in let k : p.x ≤ℤ c = lt_no v in asked k (<-≤ h) (omega zarith)

either_way : (t : Bool) (w : Crossing) → w ≡ Missing → cond t w Missing ≡ Missing
either_way true w e = e
either_way false w e = refl

module _ (p q : Pt) (c a b h : ℤ) (k : Asked p.x p.y q.x q.y c) (e : h ≡ height p.x p.y q.x q.y c) where
  ordered : cross_at_x p q c a b ≡ cross_in_order p q c a b
  unfolding cross_at_x
  ordered = sym (is_yes (lt_z p.x q.x) (cross_in_order p q c a b) (cross_in_order p q c a b) _ (lt_is k.apart) refl)

  -- the height lies between the two y: where it is in range, so the segment reaches that range
  reached : a ≤ℤ height p.x p.y q.x q.y c → height p.x p.y q.x q.y c ≤ℤ b → reaches p q c a b ≡ true
  reached l u = both_is (both_is (le_is k.from) (le_is k.to)) (both_is (le_is (below_most k a l)) (le_is (above_least k b u)))

  pub met : (le_z a h && le_z h b) ≡ true → cross_at_x p q c a b ≡ At (record { x = c; y = h })
  met t =
      let g = both (le_z a h) (le_z h b) t in
      let r = reached (subst (λ (z : ℤ). a ≤ℤ z) e (le_yes g.0)) (subst (λ (z : ℤ). z ≤ℤ b) e (le_yes g.1)) in
      let m : At (record { x = c; y = h }) ≡ in_range c a b h = is_yes (le_z a h && le_z h b) _ _ Missing t refl in
      ordered ∙ sym (is_yes (reaches p q c a b) _ _ Missing r (m ∙ ap (in_range c a b) e))

  pub missed : (le_z a h && le_z h b) ≡ false → cross_at_x p q c a b ≡ Missing
  missed t =
      let m : Missing ≡ in_range c a b h = is_no (le_z a h && le_z h b) Missing _ Missing t refl in
      ordered ∙ either_way (reaches p q c a b) _ (sym (m ∙ ap (in_range c a b) e))

-- ---- the cut at a lower or an upper edge, by the code's tests: p is strictly outside it, q is not
abbrev pub AskedOn : Side → Pt → Pt → ℤ → Type 0
AskedOn low p q c = Asked p.x p.y q.x q.y c
AskedOn high p q c = Asked q.x q.y p.x p.y c

asked_on : (d : Side) (p q : Pt) (c : ℤ) → Coord p → Coord q → beyond d c p.x ≡ true → beyond d c q.x ≡ false → AskedOn d p q c
asked_on low p q c cp cq u v = asked_low p q c cp cq u v
asked_on high p q c cp cq u v = asked_high q p c cq cp u v

-- the crossing is asked for from left to right
abbrev pub cross_on : Side → Pt → Pt → ℤ → ℤ → ℤ → Crossing
cross_on low p q c a b = cross_at_x p q c a b
cross_on high p q c a b = cross_at_x q p c a b

cross_on_lem : (d : Side) (p q : Pt) (c a b : ℤ) → cross_on d p q c a b ≡ cross_at_x p q c a b
cross_on_lem low p q c a b = refl
cross_on_lem high p q c a b = crossing_sym q p c a b

-- what the machine reads back from the bits of each value
abbrev read : ℤ → ℤ
read z = to_z w32 (of_z w32 z)

pub record Reads (s : Seg) (c a b : ℤ) : Type 0 where
  pub x0 : Back w32 s.p0.x
  pub y0 : Back w32 s.p0.y
  pub x1 : Back w32 s.p1.x
  pub y1 : Back w32 s.p1.y
  pub at : Back w32 c
  pub from : Back w32 a
  pub to : Back w32 b

-- a point made anew of its numbers
abbrev again : Pt → Pt
again p = record { x = read p.x; y = read p.y }

replaced_none : (e : Edge) (u v : Bool) (s : ClippedSeg) (w : Crossing) → u ≡ false → v ≡ false → s ≡ replace e u v s w
replaced_none e u v s Missing f g = refl
replaced_none e u v s (At p) f g = rw (f, g) refl

module _ (d : Side) (e : Edge) (s : ClippedSeg) (c a b : ℤ) (k : Reads s.seg c a b) where
  abbrev p : Pt
  p = s.seg.p0

  abbrev q : Pt
  q = s.seg.p1

  abbrev Cut : ClippedSeg
  Cut = replace e (beyond d c p.x) (beyond d c q.x) s (cross_at_x p q c a b)

  abbrev Out0 : Bool → Type 0
  Out0 t = beyond d (read c) (read p.x) ≡ t

  abbrev Out1 : Bool → Type 0
  Out1 t = beyond d (read c) (read q.x) ≡ t

  is0 : (t : Bool) → Out0 t → beyond d c p.x ≡ t
  is0 t e = rw (k.at, k.x0) at e

  is1 : (t : Bool) → Out1 t → beyond d c q.x ≡ t
  is1 t e = rw (k.at, k.x1) at e

  pub both_out : Out0 true → Out1 true → s ≡ Cut
  both_out u v = sym (ap (replace e (beyond d c p.x) (beyond d c q.x) s) (none_beyond d c p q a b (is0 true u) (is1 true v)))

  pub none_out : Out0 false → Out1 false → s ≡ Cut
  none_out u v = replaced_none e _ _ s (cross_at_x p q c a b) (is0 false u) (is1 false v)

  pub asked_0 : Coord p → Coord q → Out0 true → Out1 false → AskedOn d p q (read c)
  asked_0 g h u v = rw k.at (asked_on d p q c g h (is0 true u) (is1 false v))

  pub asked_1 : Coord p → Coord q → Out0 false → Out1 true → AskedOn d q p (read c)
  asked_1 g h u v = rw k.at (asked_on d q p c h g (is1 true v) (is0 false u))

  -- the answer m, found from the end that is outside
  module _ (m : Option ℤ) where
    met_0 : met_at (read c) m ≡ cross_on d p q (read c) (read a) (read b) → met_at c m ≡ cross_at_x p q c a b
    met_0 f = rw (k.at, k.from, k.to) at f ∙ cross_on_lem d p q c a b

    met_1 : met_at (read c) m ≡ cross_on d q p (read c) (read a) (read b) → met_at c m ≡ cross_at_x p q c a b
    met_1 f = rw (k.at, k.from, k.to) at f ∙ cross_on_lem d q p c a b ∙ crossing_sym q p c a b

    missing : met_at c m ≡ cross_at_x p q c a b → m ≡ None → s ≡ Cut
    missing f n = sym (ap (replace e (beyond d c p.x) (beyond d c q.x) s) (sym f ∙ ap (met_at c) n))

    module _ (f : met_at (read c) m ≡ cross_on d p q (read c) (read a) (read b)) where
      pub stays_0 : m ≡ None → s ≡ Cut
      stays_0 n = missing (met_0 f) n

      pub goes_0 : Out0 true → (y : ℤ) → Back w32 y → m ≡ Some y → record { seg = join (record { x = read c; y = read y }) (again q); first = e; second = s.second } ≡ Cut
      goes_0 u y r n = let w : cross_at_x p q c a b ≡ At (record { x = c; y = y }) = sym (met_0 f) ∙ ap (met_at c) n in rw (k.at, r, w, is0 true u, k.x1, k.y1) refl

    module _ (f : met_at (read c) m ≡ cross_on d q p (read c) (read a) (read b)) where
      pub stays_1 : m ≡ None → s ≡ Cut
      stays_1 n = missing (met_1 f) n

      pub goes_1 : Out0 false → Out1 true → (y : ℤ) → Back w32 y → m ≡ Some y → record { seg = join (again p) (record { x = read c; y = read y }); first = s.first; second = e } ≡ Cut
      goes_1 u v y r n = let w : cross_at_x p q c a b ≡ At (record { x = c; y = y }) = sym (met_1 f) ∙ ap (met_at c) n in rw (k.at, r, w, is0 false u, is1 true v, k.x0, k.y0) refl

-- ---- what is cut stays within the limit
fate_coord : {s : Side} {b : BBox} {p q r : Pt} → Good b → Coord p → Fate s b p q r → Coord r
fate_coord g h (clear n) = h
fate_coord g h (stuck o w) = h
fate_coord g h (moved r o n e k) = inside_coord g e.inside

pub swap_good : {b : BBox} → Good b → Good (swap_box b)
swap_good g = record { wide = g.tall; tall = g.wide; left = g.bottom; right = g.top; bottom = g.left; top = g.right }

pub record Coords (s : Seg) : Type 0 where
  pub end0 : Coord s.p0
  pub end1 : Coord s.p1

module _ {b : BBox} (g : Good b) (t : Seg) (h : Coords t) where
  of_x : (s : Side) → Coords (ends_x s b t)
  of_x s = record { end0 = fate_coord g h.end0 (fate b (good_proper g) t.p0 t.p1 s); end1 = fate_coord g h.end1 (fate b (good_proper g) t.p1 t.p0 s) }

swap_coords : {t : Seg} → Coords t → Coords (swap_seg t)
swap_coords h = record { end0 = record { at_x = h.end0.at_y; at_y = h.end0.at_x }; end1 = record { at_x = h.end1.at_y; at_y = h.end1.at_x } }

-- ---- the cuts as the code makes them: at the lower and at the upper edge of x of any box, under any name
abbrev pub cut_low : Edge → BBox → ClippedSeg → ClippedSeg
cut_low e b c = replace e (lt_z c.seg.p0.x b.x_min) (lt_z c.seg.p1.x b.x_min) c (cross_at_x c.seg.p0 c.seg.p1 b.x_min b.y_min b.y_max)

abbrev pub cut_high : Edge → BBox → ClippedSeg → ClippedSeg
cut_high e b c = replace e (lt_z b.x_max c.seg.p0.x) (lt_z b.x_max c.seg.p1.x) c (cross_at_x c.seg.p0 c.seg.p1 b.x_max b.y_min b.y_max)

pub swapped_coords : {c d : ClippedSeg} → d ≡ swap_clipped c → Coords c.seg → Coords d.seg
swapped_coords e h = subst (λ (z : ClippedSeg). Coords z.seg) (sym e) (swap_coords h)

module _ {b : BBox} (g : Good b) (e : Edge) (c r : ClippedSeg) (h : Coords c.seg) where
  pub low_coords : r ≡ cut_low e b c → Coords r.seg
  low_coords f =
      let w = cross_at_x c.seg.p0 c.seg.p1 b.x_min b.y_min b.y_max in
      subst Coords (sym (ap (λ (z : ClippedSeg). z.seg) f ∙ seg_replace e _ _ c w ∙ at_x_min b c.seg)) (of_x g c.seg h low)

  pub high_coords : r ≡ cut_high e b c → Coords r.seg
  high_coords f =
      let w = cross_at_x c.seg.p0 c.seg.p1 b.x_max b.y_min b.y_max in
      subst Coords (sym (ap (λ (z : ClippedSeg). z.seg) f ∙ seg_replace e _ _ c w ∙ at_x_max b c.seg)) (of_x g c.seg h high)

-- ---- a cut at y is one at x, with x and y exchanged; the names stay
swap_cut : (e : Edge) (u v : Bool) (c : ClippedSeg) (w : Crossing) → swap_clipped (replace e u v (swap_clipped c) w) ≡ replace e u v c (swapped w)
swap_cut e u v c Missing = refl
swap_cut e true v c (At p) = refl
swap_cut e false true c (At p) = refl
swap_cut e false false c (At p) = refl

module _ (b : BBox) (c : ClippedSeg) where
  at_y_min : swap_clipped (cut_low YMin (swap_box b) (swap_clipped c)) ≡ cut_y_min b c
  at_y_min = swap_cut YMin (lt_z c.seg.p0.y b.y_min) (lt_z c.seg.p1.y b.y_min) c (cross_at_x (swap c.seg.p0) (swap c.seg.p1) b.y_min b.x_min b.x_max)

  at_y_max : swap_clipped (cut_high YMax (swap_box b) (swap_clipped c)) ≡ cut_y_max b c
  at_y_max = swap_cut YMax (lt_z b.y_max c.seg.p0.y) (lt_z b.y_max c.seg.p1.y) c (cross_at_x (swap c.seg.p0) (swap c.seg.p1) b.y_max b.x_min b.x_max)

-- ---- the four cuts, those at y with x and y exchanged
module _ {b : BBox} (g : Good b) (s : Seg) (c1 c2 t2 c3 c4 r : ClippedSeg) where
  pub four_cuts : c1 ≡ cut_low XMin b (given s) → c2 ≡ cut_high XMax b c1 → t2 ≡ swap_clipped c2 → c3 ≡ cut_low YMin (swap_box b) t2 → c4 ≡ cut_high YMax (swap_box b) c3 → r ≡ swap_clipped c4 → r ≡ clip b s
  unfolding cuts
  four_cuts e1 e2 f2 e3 e4 f4 =
      let k3 : swap_clipped c3 ≡ cut_y_min b c2 = ap swap_clipped (e3 ∙ ap (cut_low YMin (swap_box b)) f2) ∙ at_y_min b c2 in
      let k4 : r ≡ cut_y_max b (swap_clipped c3) = f4 ∙ ap swap_clipped e4 ∙ at_y_max b (swap_clipped c3) in
      let k : r ≡ cuts b s = k4 ∙ ap (cut_y_max b) (k3 ∙ ap (cut_y_min b) (e2 ∙ ap (cut_x_max b) e1)) in
      k ∙ sym (clip_cuts b (good_proper g) s)
