-- `clip::clip` meets its contract: BOX, then COORD, then the clip, where a segment beside the box stays; and demand 3 is a theorem about the definition.
use mathlib.Core.Path.{◌≡◌, sym, ◌∙◌}
use Rattle.clip.specs.declared.ClippedSeg.{ClippedSeg}
use Rattle.std.specs.Prelude.{Ok}
use Rattle.clip.specs.Facts.{Good}
use Rattle.clip.specs.Cutting.{clip}
use Rattle.clip.proofs.Returns.{Owed, bad_box, good, bad_coord, coords, done, beside_x_lem, beside_y_lem, good_cornered, clip_cornered}
use Rattle.clip.proofs.clip.Goals as goal
use Rattle.clip.proofs.clip.Tie as tie
use Rattle.clip.proofs.clip.Reads as contract
use Rattle.clip.proofs.clip.Lts as places

-- the places on the way that the lemmas below speak of
abbrev Start : Type 0
Start = places.Start tie.the-claims contract.Pre contract.Post tie.handed_clauses

abbrev Else-not-is_good : Type 0
Else-not-is_good = places.Else1 tie.the-claims contract.Pre contract.Post tie.handed_clauses

abbrev Else-not-are_coords : Type 0
Else-not-are_coords = places.Else2 tie.the-claims contract.Pre contract.Post tie.handed_clauses

-- past the test of the box, and that of the ends
is_good_box : (c : Else-not-is_good) → Good c.args.bbox
is_good_box c = good c.args.seg c.args.bbox _ c.is_good.ensures c.if-not-is_good.false-raw

are_coords_done : (c : Else-not-are_coords) → (r : ClippedSeg) → r ≡ clip c.args.bbox c.args.seg → Owed c.args.seg c.args.bbox (Ok r)
are_coords_done c =
    done c.args.seg c.args.bbox _ c.is_good.ensures c.if-not-is_good.false-raw _ c.are_coords.ensures c.if-not-are_coords.false-raw

pub returns-then-not-is_good : goal.returns-then-not-is_good
returns-then-not-is_good c = let s : Start = c.before.before in let whole = bad_box s.args.seg s.args.bbox _ c.is_good.ensures c.if-not-is_good.true-raw in record { answer = whole.0; demand3 = whole.1 }

pub returns-then-not-are_coords : goal.returns-then-not-are_coords
returns-then-not-are_coords c = let whole = bad_coord c.args.seg c.args.bbox _ c.is_good.ensures c.if-not-is_good.false-raw _ c.are_coords.ensures c.if-not-are_coords.true-raw in record { answer = whole.0; demand3 = whole.1 }

pub returns-then-is_beside : goal.returns-then-is_beside
returns-then-is_beside c = let whole = are_coords_done c.before.before.before _ (c.stay.ensures ∙ beside_x_lem c.args.bbox c.args.seg (is_good_box c.before.before.before.before.before) (sym c.is_beside.ensures ∙ c.if-is_beside.true)) in record { answer = whole.0; demand3 = whole.1 }

pub returns-then-is_beyond : goal.returns-then-is_beyond
returns-then-is_beyond c = let whole = are_coords_done c.before.before.before.before.before _ (c.stay-then-is_beyond.ensures ∙ beside_y_lem c.args.bbox c.args.seg (is_good_box c.before.before.before.before.before.before.before) (sym c.is_beyond.ensures ∙ c.if-is_beyond.true)) in record { answer = whole.0; demand3 = whole.1 }

pub cut_all-requires : goal.cut_all-requires
cut_all-requires c = record { good = good_cornered c.args.bbox _ _ c.low.ensures c.high.ensures (is_good_box c.before.before.before.before.before.before.before.before.before.before); coord = (coords c.args.seg c.args.bbox _ c.is_good.ensures c.if-not-is_good.false-raw _ c.are_coords.ensures c.if-not-are_coords.false-raw).0; coord_2 = (coords c.args.seg c.args.bbox _ c.is_good.ensures c.if-not-is_good.false-raw _ c.are_coords.ensures c.if-not-are_coords.false-raw).1 }

pub returns : goal.returns
returns c = let whole = are_coords_done c.before.before.before.before.before.before.before.before.before _ (clip_cornered c.args.bbox _ _ c.low.ensures c.high.ensures c.args.seg _ c.cut_all.ensures) in record { answer = whole.0; demand3 = whole.1 }
