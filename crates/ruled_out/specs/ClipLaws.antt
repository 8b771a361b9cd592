-- Crate `clip`, document 02, request (vi): wrong forms of its two laws, definitions that break one of them, and x exchanged with y, which is no law.
use Rattle.std.specs.Prelude.{ℕ, ◌≡◌, refl, cond, List, ℤ, pos, negsuc, neg_ℤ, ◌+ℤ◌, ◌-ℤ◌, ◌*ℤ◌}
use Rattle.std.proofs.Common.{ap, arith}
use Rattle.std.specs.Int.Signed.{lt_z}
use Rattle.refusal.specs.Said.{Said}
use Rattle.clip.specs.declared.Pt.{Pt}
use Rattle.clip.specs.declared.Seg.{Seg}
use Rattle.clip.specs.declared.BBox.{BBox}
use Rattle.clip.specs.declared.ClippedSeg.{ClippedSeg}
use Rattle.clip.specs.declared.Edge.TheVariants.{XMin}
use Rattle.clip.specs.Domain.{is_coord, is_inside, is_good}
use Rattle.clip.specs.Rounding.{round}
use Rattle.clip.specs.Cutting.{Crossing, Missing, in_range, reaches, cross_in_order, cross_at_x, swap_seg, given, replace, cuts, overlap, clip}
use Rattle.clip.specs.Answer.{clipped}
use Rattle.clip.specs.Numbers.{seg_at, box_at, edge_number}
use Rattle.clip.specs.Laws.{said_of, reversed, turned, moved_seg, moved_box, moved_clip, exchanged, corner, diagonal}
use Rattle.ruled_out.specs.Inputs.{size, corners_of, item, ten}

-- what is cut at both ends: from (-10, 0) to (990, 51), which comes to lie from (0, 1) to (10, 2)
abbrev long : Seg
long = seg_at (negsuc 9) (pos 0) (pos 990) (pos 51)

-- ---- from the other end
-- the ends are not exchanged
pub ends_stay : ((b : BBox) (s : Seg) → clip b (reversed s) ≡ clip b s) → ⊥
unfolding clip overlap cuts cross_at_x
ends_stay h = let e : ◌≡◌ {A = ℕ} 10 0 = ap (λ (c : ClippedSeg). size c.seg.p0.x) (h ten long) in omega arith

-- the ends are, and their edges are not
pub edges_stay : ((b : BBox) (s : Seg)
    → clip b (reversed s) ≡ record { seg = reversed (clip b s).seg; first = (clip b s).first; second = (clip b s).second }) → ⊥
unfolding clip overlap cuts cross_at_x
edges_stay h = let e : ◌≡◌ {A = ℕ} 2 1 = ap (λ (c : ClippedSeg). edge_number c.first) (h ten long) in omega arith

-- ---- by one step
-- the box stays
pub box_stays : ((u v : ℤ) (b : BBox) (s : Seg) → clip b (moved_seg u v s) ≡ moved_clip u v (clip b s)) → ⊥
unfolding clip overlap cuts cross_at_x
box_stays h = let e : ◌≡◌ {A = ℕ} 0 5 = ap (λ (c : ClippedSeg). size c.seg.p0.x) (h (pos 5) (pos 0) ten long) in omega arith

-- one of its edges stays
abbrev moved_but_one : ℤ → ℤ → BBox → BBox
moved_but_one u v b = box_at (b.x_min +ℤ u) b.x_max (b.y_min +ℤ v) (b.y_max +ℤ v)

pub edge_stays : ((u v : ℤ) (b : BBox) (s : Seg) → clip (moved_but_one u v b) (moved_seg u v s) ≡ moved_clip u v (clip b s)) → ⊥
unfolding clip overlap cuts cross_at_x
edge_stays h = let e : ◌≡◌ {A = ℕ} 10 15 = ap (λ (c : ClippedSeg). size c.seg.p1.x) (h (pos 5) (pos 0) ten long) in omega arith

-- what a call says, of every box and every segment: moved beyond the limit, the segment is refused
pub moved_beyond : ((u v : ℤ) (s : Seg) (b : BBox) → clipped (moved_seg u v s) (moved_box u v b) ≡ said_of (moved_clip u v) (clipped s b)) → ⊥
unfolding clipped is_good is_coord
moved_beyond h =
    let e : ◌≡◌ {A = ℕ} 5 0 = ap (λ (a : Said (List ClippedSeg)). a.number) (h (pos 1073741000) (pos 0) long ten) in omega arith

-- ---- x exchanged with y, in a box that stays the same: another segment, and the same segment with another edge's name
pub no_exchange : ((s : Seg) → (clip ten (swap_seg s)).seg ≡ swap_seg (clip ten s).seg) → ⊥
unfolding clip overlap cuts cross_at_x
no_exchange h = let e : ◌≡◌ {A = ℕ} 0 1 = ap (λ (s : Seg). item 0 (corners_of s)) (h corner) in omega arith

pub no_exchange_of_names : ((s : Seg) → (clip ten (swap_seg s)).seg ≡ swap_seg (clip ten s).seg → clip ten (swap_seg s) ≡ exchanged (clip ten s)) → ⊥
unfolding clip overlap cuts cross_at_x
no_exchange_of_names h = let e : ◌≡◌ {A = ℕ} 1 3 = ap (λ (c : ClippedSeg). edge_number c.first) (h diagonal refl) in omega arith

-- ---- definitions that break a law, seen at the cut at x_min with another crossing
abbrev cut_by : (Pt → Pt → ℤ → ℤ → ℤ → Crossing) → BBox → ClippedSeg → ClippedSeg
cut_by cross b c =
    replace XMin (lt_z c.seg.p0.x b.x_min) (lt_z c.seg.p1.x b.x_min) c
    (cross c.seg.p0 c.seg.p1 b.x_min b.y_min b.y_max)

-- the ends are not put in order of x: a segment from right to left crosses nothing
pub ends_not_ordered : ((b : BBox) (c : ClippedSeg) → cut_by cross_in_order b (turned c) ≡ turned (cut_by cross_in_order b c)) → ⊥
ends_not_ordered h =
    let e : ◌≡◌ {A = ℕ} 5 0 = ap (λ (c : ClippedSeg). size c.seg.p1.x) (h ten (given (seg_at (negsuc 4) (pos 5) (pos 5) (pos 5)))) in omega arith

-- whether segment and box overlap is asked of the first end alone
abbrev clip_by_first : BBox → Seg → ClippedSeg
clip_by_first b s = cond (is_inside b s.p0) (cuts b s) (given s)

pub overlap_of_one_end : ((b : BBox) (s : Seg) → clip_by_first b (reversed s) ≡ turned (clip_by_first b s)) → ⊥
unfolding is_inside cuts cross_at_x
overlap_of_one_end h =
    let e : ◌≡◌ {A = ℕ} 0 5 = ap (λ (c : ClippedSeg). size c.seg.p1.x) (h ten (seg_at (negsuc 4) (pos 5) (pos 5) (pos 5))) in omega arith

-- the absolute y is rounded and not the offset, halves away from zero: -1/2 gives -1, and one step higher 1/2 gives 1
abbrev away : ℤ → ℤ → ℤ
away n d = cond (lt_z n (pos 0)) (neg_ℤ (round (neg_ℤ n) d)) (round n d)

abbrev height_away : Pt → Pt → ℤ → ℤ
height_away p q x = away (p.y *ℤ (q.x -ℤ p.x) +ℤ (q.y -ℤ p.y) *ℤ (x -ℤ p.x)) (q.x -ℤ p.x)

abbrev away_in_order : Pt → Pt → ℤ → ℤ → ℤ → Crossing
away_in_order p q x a b = cond (reaches p q x a b) (in_range x a b (height_away p q x)) Missing

abbrev cross_away : Pt → Pt → ℤ → ℤ → ℤ → Crossing
cross_away p q x a b = cond (lt_z p.x q.x) (away_in_order p q x a b) (cond (lt_z q.x p.x) (away_in_order q p x a b) Missing)

pub absolute_rounded : ((u v : ℤ) (b : BBox) (c : ClippedSeg)
    → cut_by cross_away (moved_box u v b) (moved_clip u v c) ≡ moved_clip u v (cut_by cross_away b c)) → ⊥
absolute_rounded h =
    let b = box_at (pos 0) (pos 10) (negsuc 9) (pos 10) in
    let c = given (seg_at (negsuc 0) (negsuc 0) (pos 1) (pos 0)) in
    let e : ◌≡◌ {A = ℕ} 1 0 = ap (λ (c : ClippedSeg). size c.seg.p0.y) (h (pos 0) (pos 1) b c) in omega arith
