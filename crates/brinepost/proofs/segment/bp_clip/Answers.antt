-- A box that is not good is refused, and an end beyond the limit; a segment with both ends in the box, and one without overlap, stays as given; else what the clip said, by its two cases.
use mathlib.Core.Path.{◌≡◌}
use mir.Syntax.{w32}
use Rattle.whole.proofs.Machine.{Back, back}
use Rattle.clip.specs.declared.Seg.{Seg}
use Rattle.clip.specs.declared.BBox.{BBox}
use Rattle.clip.specs.declared.ClippedSeg.{ClippedSeg}
use Rattle.clip.specs.Answer.{clipped}
use Rattle.clip.specs.Numbers.{seg_at, box_at}
use Rattle.brinepost.specs.declared.segment.BpClipped.{BpClipped}
use Rattle.brinepost.specs.Segments.{flat_clip}
use Rattle.brinepost.proofs.Tellings.{seg_read, box_read, ends_read, clip_of, clip_box, clip_kept, clip_coord, clip_apart, clip_done, clip_not}
use borrow.Author.Rules.{rules}
use Rattle.brinepost.proofs.segment.bp_clip.Goals as goal
use Rattle.brinepost.proofs.segment.bp_clip.Tie as tie
use Rattle.brinepost.proofs.segment.bp_clip.Reads as contract
use Rattle.brinepost.proofs.segment.bp_clip.Lts as places

-- the places on the way that the lemmas below speak of
abbrev After-make_box-bbox : Type 0
After-make_box-bbox = places.After-make_box tie.the-claims contract.Pre contract.Post tie.handed_clauses

abbrev Else-not-is_good : Type 0
Else-not-is_good = places.Else1 tie.the-claims contract.Pre contract.Post tie.handed_clauses

abbrev In-Ok : Type 0
In-Ok = places.Past-After-known_told tie.the-claims contract.Pre contract.Post tie.handed_clauses

-- the segment and the box, and what is told of them is told of the numbers
abbrev seg : After-make_box-bbox → Seg
seg m = m.make_seg-seg.result

abbrev box : After-make_box-bbox → BBox
box m = m.make_box-bbox.result

of_numbers : (m : After-make_box-bbox) → let a = m.args in (r : BpClipped) → r ≡ flat_clip (clipped (seg m) (box m))
    → r ≡ flat_clip (clipped (seg_at a.x0 a.y0 a.x1 a.y1) (box_at a.left a.right a.bottom a.top))
of_numbers m r h =
    let f = m.ranges in
    clip_of (seg m) _ (box m) _ r
    (seg_read (back f.x0) (back f.y0) (back f.x1) (back f.y1) (seg m) m.make_seg-seg.ensures)
    (box_read (back f.left) (back f.right) (back f.bottom) (back f.top) (box m) m.make_box-bbox.ensures)
    h

pub returns-then-not-is_good : goal.returns-then-not-is_good
returns-then-not-is_good c =
    of_numbers c.before.before.before _ (clip_box (seg c.before.before.before) (box c.before.before.before) _ c.is_good.ensures _ c.if-not-is_good.true-raw c.refused.ensures)

pub returns-then-is_inside : goal.returns-then-is_inside
returns-then-is_inside c =
    let e : Else-not-is_good = c.before.before.before.before.before.before in
    let m = e.before.before in
    of_numbers m _ (clip_kept (seg m) (box m) _ c.is_good.ensures _ c.if-not-is_good.false-raw _ _ c.is_inside.ensures c.is_inside-2.ensures c.if-is_inside.true _ c.make_seg-seg.ensures c.kept.ensures)

pub returns-then-not-is_coord : goal.returns-then-not-is_coord
returns-then-not-is_coord c =
    of_numbers c.before.before.before.before.before.before.before.before.before.before.before _ (clip_coord (seg c.before.before.before.before.before.before.before.before.before.before.before) (box c.before.before.before.before.before.before.before.before.before.before.before) _ c.is_good.ensures _ c.if-not-is_good.false-raw _ _ c.is_coord.ensures c.is_coord-2.ensures c.if-not-is_coord.true-raw c.refused-then-not-is_coord.ensures)

pub returns-then-not-overlaps : goal.returns-then-not-overlaps
returns-then-not-overlaps c =
    of_numbers c.before.before.before.before.before.before.before.before.before.before.before.before.before _ (clip_apart (seg c.before.before.before.before.before.before.before.before.before.before.before.before.before) (box c.before.before.before.before.before.before.before.before.before.before.before.before.before) _ c.is_good.ensures _ c.if-not-is_good.false-raw _ _ c.is_coord.ensures c.is_coord-2.ensures c.if-not-is_coord.false-raw _ c.overlaps.ensures c.if-not-overlaps.true-raw _ c.make_seg-seg.ensures c.kept-then-not-overlaps.ensures)

-- the clipped segment, what the machine reads back of its numbers, and where it is taken apart, seen from the answer
abbrev cut : In-Ok → ClippedSeg
cut k = k.in-Ok.c

module _ (k : In-Ok) where
  x0 : Back w32 (cut k).seg.p0.x
  x0 = back {w = w32} (search rules depth 12)

  y0 : Back w32 (cut k).seg.p0.y
  y0 = back {w = w32} (search rules depth 12)

  x1 : Back w32 (cut k).seg.p1.x
  x1 = back {w = w32} (search rules depth 12)

  y1 : Back w32 (cut k).seg.p1.y
  y1 = back {w = w32} (search rules depth 12)

pub returns-in-Ok : goal.returns-in-Ok
returns-in-Ok c =
    let k : In-Ok = c.before.before.before.before.before.before.before.before in
    let m = k.before.before.before.before.before.before.before.before.before.before.before.before.before.before in
    of_numbers m _ (clip_done _ (seg m) (box m) c.clip.ensures.answer _ (cut k) c.in-Ok.is (ends_read (x0 k) (y0 k) (x1 k) (y1 k) (cut k).first (cut k).second _ c.accepted.ensures))

pub returns-in-Err : goal.returns-in-Err
returns-in-Err c =
    of_numbers c.before.before.before.before.before.before.before.before.before.before.before.before.before.before.before _ (clip_not _ (seg c.before.before.before.before.before.before.before.before.before.before.before.before.before.before.before) (box c.before.before.before.before.before.before.before.before.before.before.before.before.before.before.before) c.clip.ensures.answer _ c.in-Err.k c.in-Err.is c.refused-in-Err.ensures)
