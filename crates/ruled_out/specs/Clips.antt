-- Crate `clip`: wrong limits, wrong tests of points and boxes, wrong roundings, wrong cuts and wrong names of edges.
use Rattle.std.specs.Prelude.{ℕ, ◌≡◌, refl, true, false, cond, ◌&&◌, List, [], ◌∷◌, ℤ, pos, negsuc, neg_ℤ, ◌+ℤ◌, ◌-ℤ◌, ◌*ℤ◌, ◌≤ℤ◌, ◌<ℤ◌}
use Rattle.std.proofs.Common.{ap, arith}
use Rattle.std.specs.Int.Signed.{lt_z, le_z, le_z_yes, lt_z_yes, quot_z}
use Rattle.refusal.specs.declared.Refusal.TheVariants.{Box, Coord}
use Rattle.refusal.specs.Said.{Said, accepted, refused}
use Rattle.whole.specs.Floor.{IsFloor, floor}
use Rattle.clip.specs.declared.Pt.{Pt}
use Rattle.clip.specs.declared.Seg.{Seg}
use Rattle.clip.specs.declared.BBox.{BBox}
use Rattle.clip.specs.declared.ClippedSeg.{ClippedSeg}
use Rattle.clip.specs.declared.Edge.{Edge}
use Rattle.clip.specs.declared.Edge.TheVariants.{Stayed, XMin, XMax, YMin, YMax}
use Rattle.clip.specs.Domain.{limit, within, is_coord, is_inside, is_good}
use Rattle.clip.specs.Rounding.{round}
use Rattle.clip.specs.Cutting.{cross_at_x, given, replace, cut_x_min, cut_x_max, cut_y_min, cut_y_max, cuts, overlap, clip}
use Rattle.clip.specs.Answer.{are_coords, clipped}
use Rattle.clip.specs.Numbers.{seg_at, box_at, edge_number, is_moved}
use Rattle.clip.specs.Demand3.{Share, along, Passed, Holds}
use Rattle.clip.proofs.Tight.{not_half}
use Rattle.ruled_out.specs.Inputs.{bit, size, item, first_corners, ten, flat}

-- ---- BBox::limit
-- one higher: the crossing would not fit 64 bits
pub limit_higher : limit ≡ pos 1073741824 → ⊥
limit_higher h = let e : ◌≡◌ {A = ℕ} 1073741823 1073741824 = ap size h in omega arith

-- one lower
pub limit_lower : limit ≡ pos 1073741822 → ⊥
limit_lower h = let e : ◌≡◌ {A = ℕ} 1073741823 1073741822 = ap size h in omega arith

-- ---- BBox::is_within
-- the least number is refused
pub least_refused : ((z : ℤ) → within z ≡ (lt_z (neg_ℤ limit) z && le_z z limit)) → ⊥
least_refused h = let e : ◌≡◌ {A = ℕ} 1 0 = ap bit (h (neg_ℤ limit)) in omega arith

-- no limit below zero
pub no_lower_limit : ((z : ℤ) → within z ≡ le_z z limit) → ⊥
no_lower_limit h = let e : ◌≡◌ {A = ℕ} 0 1 = ap bit (h (negsuc 1073741823)) in omega arith

-- ---- BBox::is_coord
-- y is not asked
pub y_unasked : ((p : Pt) → is_coord p ≡ within p.x) → ⊥
unfolding is_coord
y_unasked h = let e : ◌≡◌ {A = ℕ} 0 1 = ap bit (h (record { x = pos 0; y = pos 1073741824 })) in omega arith

-- x is not asked
pub x_unasked : ((p : Pt) → is_coord p ≡ within p.y) → ⊥
unfolding is_coord
x_unasked h = let e : ◌≡◌ {A = ℕ} 0 1 = ap bit (h (record { x = pos 1073741824; y = pos 0 })) in omega arith

-- ---- BBox::is_good
-- a box without width is taken
pub flat_box_taken : ((b : BBox) → is_good b ≡ (le_z b.x_min b.x_max && le_z b.y_min b.y_max
    && (within b.x_min && within b.x_max) && (within b.y_min && within b.y_max))) → ⊥
unfolding is_good
flat_box_taken h = let e : ◌≡◌ {A = ℕ} 0 1 = ap bit (h flat) in omega arith

-- no edge is asked for the limit
pub edge_unasked : ((b : BBox) → is_good b ≡ (lt_z b.x_min b.x_max && lt_z b.y_min b.y_max)) → ⊥
unfolding is_good
edge_unasked h = let e : ◌≡◌ {A = ℕ} 0 1 = ap bit (h (box_at (pos 0) (pos 1073741824) (pos 0) (pos 10))) in omega arith

-- ---- the floor and the rounding
-- a floor that rounds toward zero
pub toward_zero : ((m d : ℤ) → floor m d ≡ quot_z m d) → ⊥
toward_zero h = let e : ◌≡◌ {A = ℕ} 1 0 = ap size (h (negsuc 0) (pos 2)) in omega arith

-- a floor that may be one too low
pub two_floors : ((m d q : ℤ) → (q *ℤ d) ≤ℤ m → m <ℤ ((q +ℤ pos 2) *ℤ d) → IsFloor m d q) → ⊥
two_floors h = (h (pos 1) (pos 1) (pos 0) (le_z_yes tt) (lt_z_yes tt)).high.lt

-- halves down
pub halves_down : ((n d : ℤ) → round n d ≡ floor (pos 2 *ℤ n +ℤ d -ℤ pos 1) (pos 2 *ℤ d)) → ⊥
halves_down h = let e : ◌≡◌ {A = ℕ} 1 0 = ap size (h (pos 1) (pos 2)) in omega arith

-- no rounding: the whole number below
pub not_rounded : ((n d : ℤ) → round n d ≡ floor n d) → ⊥
not_rounded h = let e : ◌≡◌ {A = ℕ} 1 0 = ap size (h (pos 1) (pos 2)) in omega arith

-- ---- the cuts
-- an end on the edge is taken for one outside it, so that the other end stays outside
pub edge_not_strict : ((b : BBox) (c : ClippedSeg) → cut_x_min b c ≡ replace XMin (le_z c.seg.p0.x b.x_min) (le_z c.seg.p1.x b.x_min) c
    (cross_at_x c.seg.p0 c.seg.p1 b.x_min b.y_min b.y_max)) → ⊥
unfolding cross_at_x
edge_not_strict h =
    let e : ◌≡◌ {A = ℕ} 0 5 = ap (λ (c : ClippedSeg). size c.seg.p1.x) (h ten (given (seg_at (pos 0) (pos 5) (negsuc 4) (pos 5)))) in omega arith

-- the y cuts before the x cuts
pub y_before_x : ((b : BBox) (s : Seg) → cuts b s ≡ cut_x_max b (cut_x_min b (cut_y_max b (cut_y_min b (given s))))) → ⊥
unfolding cuts cross_at_x
y_before_x h = let e : ◌≡◌ {A = ℕ} 1 0 = ap (λ (c : ClippedSeg). size c.seg.p0.y) (h ten (seg_at (negsuc 0) (negsuc 0) (pos 0) (pos 1))) in omega arith

-- the cut at y_max left out
pub top_not_cut : ((b : BBox) (s : Seg) → cuts b s ≡ cut_y_min b (cut_x_max b (cut_x_min b (given s)))) → ⊥
unfolding cuts cross_at_x
top_not_cut h = let e : ◌≡◌ {A = ℕ} 10 12 = ap (λ (c : ClippedSeg). size c.seg.p1.y) (h ten (seg_at (pos 5) (pos 5) (pos 5) (pos 12))) in omega arith

-- ---- Demand 3
-- some point of the exact segment s lies less than one half to the right of p, and p less than one half above it
pub record Half (s : Seg) (p : Pt) : Type 0 where
  pub k : ℤ
  pub d : ℤ
  pub share : Share k d
  pub right : (pos 2 *ℤ (along d k s.p0.x s.p1.x -ℤ d *ℤ p.x)) <ℤ d
  pub below : (pos 2 *ℤ (d *ℤ p.y -ℤ along d k s.p0.y s.p1.y)) <ℤ d

-- the second end is less than one half from the exact segment, and not only less than one
pub less_than_half : ((b : BBox) (s : Seg) → is_good b ≡ true → Half s (clip b s).seg.p1) → ⊥
unfolding clip is_good overlap cuts cross_at_x
less_than_half h =
    let n = h ten (seg_at (negsuc 9) (pos 0) (pos 990) (pos 51)) refl in not_half n.k n.d n.share n.right n.below

-- ---- the edge that is named for an end (document 02, request (v))
-- an end that x_min is named for lies on x_max
pub held_by_x_max : ((b : BBox) (s : Seg) → is_good b ≡ true → (clip b s).first ≡ XMin → (clip b s).seg.p0.x ≡ b.x_max) → ⊥
unfolding clip is_good overlap cuts cross_at_x
held_by_x_max h = let e : ◌≡◌ {A = ℕ} 0 10 = ap size (h ten (seg_at (negsuc 9) (pos 0) (pos 990) (pos 51)) refl refl) in omega arith

-- the names of the two ends exchanged
pub names_exchanged : ((b : BBox) (s : Seg) → clip b s ≡ record { seg = (clip b s).seg; first = (clip b s).second; second = (clip b s).first }) → ⊥
unfolding clip overlap cuts cross_at_x
names_exchanged h =
    let e : ◌≡◌ {A = ℕ} 1 2 = ap (λ (c : ClippedSeg). edge_number c.first) (h ten (seg_at (negsuc 9) (pos 0) (pos 990) (pos 51))) in omega arith

-- the cut at x_min named as its neighbour y_min
pub named_as_neighbour : ((b : BBox) (c : ClippedSeg) → cut_x_min b c ≡ replace YMin (lt_z c.seg.p0.x b.x_min) (lt_z c.seg.p1.x b.x_min) c
    (cross_at_x c.seg.p0 c.seg.p1 b.x_min b.y_min b.y_max)) → ⊥
unfolding cross_at_x
named_as_neighbour h =
    let e : ◌≡◌ {A = ℕ} 1 3 = ap (λ (c : ClippedSeg). edge_number c.first) (h ten (given (seg_at (negsuc 4) (pos 5) (pos 5) (pos 5)))) in omega arith

-- no end is named
pub moved_unnamed : ((b : BBox) (s : Seg) → clip b s ≡ given (clip b s).seg) → ⊥
unfolding clip overlap cuts cross_at_x
moved_unnamed h =
    let e : ◌≡◌ {A = ℕ} 1 0 = ap (λ (c : ClippedSeg). edge_number c.first) (h ten (seg_at (negsuc 9) (pos 0) (pos 990) (pos 51))) in omega arith

-- an edge is named because its line holds the end: both edges of a corner hold this one, and y_min made the move
pub named_for_holding : ((b : BBox) (s : Seg) → Holds XMin b (clip b s).seg.p0 → (clip b s).first ≡ XMin) → ⊥
unfolding clip overlap cuts cross_at_x
named_for_holding h = let e : ◌≡◌ {A = ℕ} 3 1 = ap edge_number (h ten (seg_at (pos 0) (negsuc 0) (negsuc 0) (pos 1)) refl) in omega arith

-- an edge is named because the end as given lay outside it: both of these ends lie left of the box and above it, and stay
pub named_for_passing : ((b : BBox) (s : Seg) → Passed XMin b s.p0 → (clip b s).first ≡ XMin) → ⊥
unfolding clip overlap cuts cross_at_x
named_for_passing h = let e : ◌≡◌ {A = ℕ} 0 1 = ap edge_number (h ten (seg_at (negsuc 4) (pos 20) (negsuc 3) (pos 21)) (lt_z_yes tt)) in omega arith

-- ---- Edge::number, is_moved
-- the y edges before the x edges
pub y_numbered_first : edge_number YMin ≡ 1 → ⊥
y_numbered_first h = let e : ◌≡◌ {A = ℕ} 3 1 = h in omega arith

-- the upper edges have the lower ones' numbers
pub sides_not_told_apart : edge_number XMax ≡ edge_number XMin → ⊥
sides_not_told_apart h = let e : ◌≡◌ {A = ℕ} 2 1 = h in omega arith

-- only the x edges move an end
pub moved_at_x_only : is_moved YMax ≡ false → ⊥
moved_at_x_only h = let e : ◌≡◌ {A = ℕ} 1 0 = ap bit h in omega arith

-- an end that stayed is one that moved
pub stayed_is_moved : ((e : Edge) → is_moved e ≡ true) → ⊥
stayed_is_moved h = let e : ◌≡◌ {A = ℕ} 0 1 = ap bit (h Stayed) in omega arith

-- ---- clip
-- COORD is asked before BOX
pub coord_before_box : ((s : Seg) (b : BBox)
    → clipped s b ≡ cond (are_coords s) (cond (is_good b) (accepted (clip b s ∷ [])) (refused Box [])) (refused Coord [])) → ⊥
unfolding clipped is_good is_coord
coord_before_box h =
    let e : ◌≡◌ {A = ℕ} 3 5 = ap (λ (a : Said (List ClippedSeg)). a.number) (h (seg_at (pos 0) (pos 0) (pos 1073741824) (pos 0)) flat) in omega arith

-- only the first end is asked for COORD
pub second_end_unasked : ((s : Seg) (b : BBox)
    → clipped s b ≡ cond (is_good b) (cond (is_coord s.p0) (accepted (clip b s ∷ [])) (refused Coord [])) (refused Box [])) → ⊥
unfolding clipped is_good is_coord
second_end_unasked h =
    let e : ◌≡◌ {A = ℕ} 5 0 = ap (λ (a : Said (List ClippedSeg)). a.number) (h (seg_at (pos 0) (pos 0) (pos 1073741824) (pos 0)) ten) in omega arith

-- a refused clip gives the segment back
pub refused_gives_segment : ((s : Seg) (b : BBox)
    → clipped s b ≡ cond (is_good b) (cond (are_coords s) (accepted (clip b s ∷ [])) (refused Coord (given s ∷ []))) (refused Box [])) → ⊥
unfolding clipped is_good is_coord
refused_gives_segment h =
    let e : ◌≡◌ {A = ℕ} 0 1073741824 = ap (λ (a : Said (List ClippedSeg)). item 2 (first_corners a.values))
    (h (seg_at (pos 0) (pos 0) (pos 1073741824) (pos 0)) ten)
    in omega arith

-- ---- clip, of a segment and a box in numbers
-- the two ends exchanged
pub ends_exchanged : ((x0 y0 x1 y1 left right bottom top : ℤ)
    → clipped (seg_at x0 y0 x1 y1) (box_at left right bottom top) ≡ clipped (seg_at x1 y1 x0 y0) (box_at left right bottom top)) → ⊥
unfolding clipped is_good is_coord clip overlap cuts cross_at_x
ends_exchanged h =
    let e : ◌≡◌ {A = ℕ} 1 3 = ap (λ (a : Said (List ClippedSeg)). item 0 (first_corners a.values))
    (h (pos 1) (pos 1) (pos 3) (pos 3) (pos 0) (pos 10) (pos 0) (pos 10))
    in omega arith

-- the right and the bottom edge exchanged
pub edges_exchanged : ((x0 y0 x1 y1 left right bottom top : ℤ)
    → clipped (seg_at x0 y0 x1 y1) (box_at left right bottom top) ≡ clipped (seg_at x0 y0 x1 y1) (box_at left bottom right top)) → ⊥
unfolding clipped is_good is_coord clip overlap cuts cross_at_x
edges_exchanged h =
    let e : ◌≡◌ {A = ℕ} 0 3 = ap (λ (a : Said (List ClippedSeg)). a.number) (h (pos 1) (pos 1) (pos 3) (pos 3) (pos 0) (pos 10) (pos 0) (pos 10))
    in omega arith

-- ---- is_inside
-- the box without its edges
pub inside_not_closed : ((b : BBox) (p : Pt)
    → is_inside b p ≡ (lt_z b.x_min p.x && lt_z p.x b.x_max && (lt_z b.y_min p.y && lt_z p.y b.y_max))) → ⊥
unfolding is_inside
inside_not_closed h = let e : ◌≡◌ {A = ℕ} 1 0 = ap bit (h ten (record { x = pos 0; y = pos 5 })) in omega arith

-- y is not asked
pub inside_y_unasked : ((b : BBox) (p : Pt) → is_inside b p ≡ (le_z b.x_min p.x && le_z p.x b.x_max)) → ⊥
unfolding is_inside
inside_y_unasked h = let e : ◌≡◌ {A = ℕ} 0 1 = ap bit (h ten (record { x = pos 5; y = pos 11 })) in omega arith
