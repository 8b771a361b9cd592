-- `clip::clip_between` meets its contract: BOX, then COORD, then the clip, where a segment beside the box stays.
use mathlib.Core.Path.{◌≡◌, ◌∙◌}
use Rattle.clip.specs.declared.Seg.{Seg}
use Rattle.clip.specs.declared.ClippedSeg.{ClippedSeg}
use Rattle.std.specs.Prelude.{Ok}
use Rattle.clip.specs.Answer.{said_clipped, clipped}
use Rattle.clip.specs.Facts.{Good}
use Rattle.clip.specs.Cutting.{clip}
use Rattle.clip.specs.Numbers.{between}
use Rattle.clip.proofs.Returns.{good, bad_box, bad_coord, coords, done, beside_either, good_cornered, clip_cornered}
use Rattle.clip.proofs.clip_between.Goals as goal
use Rattle.clip.proofs.clip_between.Tie as tie
use Rattle.clip.proofs.clip_between.Reads as contract
use Rattle.clip.proofs.clip_between.Lts as places

-- the places on the way that the lemmas below speak of
abbrev Start : Type 0
Start = places.Start tie.the-claims contract.Pre contract.Post tie.handed_clauses

abbrev Else-not-is_good : Type 0
Else-not-is_good = places.Else1 tie.the-claims contract.Pre contract.Post tie.handed_clauses

abbrev Else-not-are_coords : Type 0
Else-not-are_coords = places.Else2 tie.the-claims contract.Pre contract.Post tie.handed_clauses

abbrev seg : Start → Seg
seg s = between s.args.from s.args.to

-- past the test of the box, and that of the ends
is_good_box : (c : Else-not-is_good) → Good c.args.bbox
is_good_box c = good (seg c.before.before) c.args.bbox _ c.is_good.ensures c.if-not-is_good.false-raw

said : (c : Else-not-are_coords) → (r : ClippedSeg) → r ≡ clip c.args.bbox (seg c.before.before.before.before) → said_clipped (Ok r) ≡ clipped (seg c.before.before.before.before) c.args.bbox
said c r h =
    (done (seg c.before.before.before.before) c.args.bbox _ c.is_good.ensures c.if-not-is_good.false-raw _ c.are_coords.ensures c.if-not-are_coords.false-raw r h).0

pub returns-then-not-is_good : goal.returns-then-not-is_good
returns-then-not-is_good c = let s : Start = c.before.before in (bad_box (seg s) s.args.bbox _ c.is_good.ensures c.if-not-is_good.true-raw).0

pub returns-then-not-are_coords : goal.returns-then-not-are_coords
returns-then-not-are_coords c =
    (bad_coord (seg c.before.before.before.before) c.args.bbox _ c.is_good.ensures c.if-not-is_good.false-raw _ c.are_coords.ensures c.if-not-are_coords.true-raw).0

pub returns-then-is_beside-is_beyond : goal.returns-then-is_beside-is_beyond
returns-then-is_beside-is_beyond c =
    said c.before.before.before.before _ (c.stay.ensures ∙ beside_either c.args.bbox (seg c.before.before.before.before.before.before.before.before) (is_good_box c.before.before.before.before.before.before) (rw (c.is_beside.ensures, c.is_beyond.ensures) at c.if-is_beside-is_beyond.true))

pub cut_all-requires : goal.cut_all-requires
cut_all-requires c = record { good = good_cornered c.args.bbox _ _ c.low.ensures c.high.ensures (is_good_box c.before.before.before.before.before.before.before); coord = (coords (seg c.before.before.before.before.before.before.before.before.before) c.args.bbox _ c.is_good.ensures c.if-not-is_good.false-raw _ c.are_coords.ensures c.if-not-are_coords.false-raw).0; coord_2 = (coords (seg c.before.before.before.before.before.before.before.before.before) c.args.bbox _ c.is_good.ensures c.if-not-is_good.false-raw _ c.are_coords.ensures c.if-not-are_coords.false-raw).1 }

pub returns : goal.returns
returns c =
    said c.before.before.before.before.before.before _ (clip_cornered c.args.bbox _ _ c.low.ensures c.high.ensures (seg c.before.before.before.before.before.before.before.before.before.before) _ c.cut_all.ensures)
