-- Document 02, request (vi): two laws of clipping, each of the definition, of what a call says and of what it answers.
--   FROM THE OTHER END. A segment given from its other end clips to the same segment from its other end, and the edges trade ends; for every box and every
--   segment, refused ones too.
--   BY ONE STEP. Segment and box moved by one whole step clip to the segment moved by that step, and the edges stay; the call is asked where box and segment
--   are accepted before and after.
-- They are proved as `from_other_end` and `by_one_step` (proofs/Laws, from Symmetry and Shift). Exchanging x with y is no law, since the cuts at x come first: two
-- examples at the end.
use Rattle.std.specs.Prelude.{◌≡◌, refl, true, List, map, ℤ, pos, negsuc, ◌+ℤ◌}
use Rattle.refusal.specs.Said.{Said}
use Rattle.clip.specs.declared.Pt.{Pt}
use Rattle.clip.specs.declared.Seg.{Seg}
use Rattle.clip.specs.declared.BBox.{BBox}
use Rattle.clip.specs.declared.ClippedSeg.{ClippedSeg}
use Rattle.std.specs.Prelude.{Result, Ok, Err}
use Rattle.refusal.specs.declared.Refusal.{Refusal}
use Rattle.clip.specs.declared.Edge.{Edge}
use Rattle.clip.specs.declared.Edge.TheVariants.{Stayed, XMin, XMax, YMin, YMax}
use Rattle.clip.specs.Domain.{is_good}
use Rattle.clip.specs.Cutting.{cross_at_x, swap_seg, cuts, overlap, clip}
use Rattle.clip.specs.Answer.{said_clipped, are_coords, clipped}
use Rattle.clip.specs.Numbers.{between, seg_at}
use Rattle.clip.specs.Samples.{ten}

-- the clipped segments of what a call says, and of its answer, each changed in one way; a refusal stays what it is
abbrev pub said_of : (ClippedSeg → ClippedSeg) → Said (List ClippedSeg) → Said (List ClippedSeg)
said_of f a = record { number = a.number; place = a.place; values = map f a.values }

abbrev pub answer_of : (ClippedSeg → ClippedSeg) → Result ClippedSeg Refusal → Result ClippedSeg Refusal
answer_of f (Ok c) = Ok (f c)
answer_of f (Err r) = Err r

-- ---- from the other end
abbrev pub reversed : Seg → Seg
reversed s = between s.p1 s.p0

-- the edges trade ends
abbrev pub turned : ClippedSeg → ClippedSeg
turned c = record { seg = reversed c.seg; first = c.second; second = c.first }

pub record FromOtherEnd : Type 0 where
  pub defined : (b : BBox) (s : Seg) → clip b (reversed s) ≡ turned (clip b s)
  pub said : (s : Seg) (b : BBox) → clipped (reversed s) b ≡ said_of turned (clipped s b)
  pub answered : (s : Seg) (b : BBox) (r r' : Result ClippedSeg Refusal) → said_clipped r ≡ clipped s b → said_clipped r' ≡ clipped (reversed s) b → r' ≡ answer_of turned r

-- ---- by one step: u in x, v in y
abbrev pub moved_pt : ℤ → ℤ → Pt → Pt
moved_pt u v p = record { x = p.x +ℤ u; y = p.y +ℤ v }

abbrev pub moved_seg : ℤ → ℤ → Seg → Seg
moved_seg u v s = between (moved_pt u v s.p0) (moved_pt u v s.p1)

abbrev pub moved_box : ℤ → ℤ → BBox → BBox
moved_box u v b = record { x_min = b.x_min +ℤ u; x_max = b.x_max +ℤ u; y_min = b.y_min +ℤ v; y_max = b.y_max +ℤ v }

-- the edges stay
abbrev pub moved_clip : ℤ → ℤ → ClippedSeg → ClippedSeg
moved_clip u v c = record { seg = moved_seg u v c.seg; first = c.first; second = c.second }

-- a call takes box and segment as they are and as they are moved
pub record BothTaken (u v : ℤ) (s : Seg) (b : BBox) : Type 0 where
  pub box : is_good b ≡ true
  pub box_moved : is_good (moved_box u v b) ≡ true
  pub ends : are_coords s ≡ true
  pub ends_moved : are_coords (moved_seg u v s) ≡ true

pub record ByOneStep : Type 0 where
  pub defined : (u v : ℤ) (b : BBox) (s : Seg) → clip (moved_box u v b) (moved_seg u v s) ≡ moved_clip u v (clip b s)
  pub said : (u v : ℤ) (s : Seg) (b : BBox) → BothTaken u v s b → clipped (moved_seg u v s) (moved_box u v b) ≡ said_of (moved_clip u v) (clipped s b)
  pub answered : (u v : ℤ) (s : Seg) (b : BBox) → BothTaken u v s b → (r r' : Result ClippedSeg Refusal)
      → said_clipped r ≡ clipped s b → said_clipped r' ≡ clipped (moved_seg u v s) (moved_box u v b) → r' ≡ answer_of (moved_clip u v) r

-- ---- x and y exchanged, in the box 0..10, which stays the same: no law
abbrev pub exchanged_edge : Edge → Edge
exchanged_edge Stayed = Stayed
exchanged_edge XMin = YMin
exchanged_edge XMax = YMax
exchanged_edge YMin = XMin
exchanged_edge YMax = XMax

abbrev pub exchanged : ClippedSeg → ClippedSeg
exchanged c = record { seg = swap_seg c.seg; first = exchanged_edge c.first; second = exchanged_edge c.second }

-- a clipped segment in numbers
abbrev pub cut_at : ℤ → ℤ → ℤ → ℤ → Edge → Edge → ClippedSeg
cut_at x0 y0 x1 y1 e f = record { seg = seg_at x0 y0 x1 y1; first = e; second = f }

-- from (-1, -1) to (0, 1): the segment itself is another
abbrev pub corner : Seg
corner = seg_at (negsuc 0) (negsuc 0) (pos 0) (pos 1)

pub corner_first : exchanged (clip ten corner) ≡ cut_at (pos 1) (pos 0) (pos 1) (pos 0) YMin Stayed
unfolding clip overlap cuts cross_at_x
corner_first = refl

pub corner_after : clip ten (swap_seg corner) ≡ cut_at (pos 0) (pos 0) (pos 1) (pos 0) XMin Stayed
unfolding clip overlap cuts cross_at_x
corner_after = refl

-- from (-1, -1) to (0, 0): the same segment, and another edge's name
abbrev pub diagonal : Seg
diagonal = seg_at (negsuc 0) (negsuc 0) (pos 0) (pos 0)

pub diagonal_first : exchanged (clip ten diagonal) ≡ cut_at (pos 0) (pos 0) (pos 0) (pos 0) YMin Stayed
unfolding clip overlap cuts cross_at_x
diagonal_first = refl

pub diagonal_after : clip ten (swap_seg diagonal) ≡ cut_at (pos 0) (pos 0) (pos 0) (pos 0) XMin Stayed
unfolding clip overlap cuts cross_at_x
diagonal_after = refl
