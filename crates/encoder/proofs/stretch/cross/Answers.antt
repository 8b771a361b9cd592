-- Each moved end, then the point.
use mathlib.Core.Path.{◌≡◌, ◌∙◌, ap}
use Rattle.clip.specs.Cutting.{clip}
use Rattle.encoder.specs.Boundary.{moved_by}
use Rattle.encoder.proofs.Tests.{is_seg}
use Rattle.encoder.proofs.Marks.{ends_asked, cut_asked, draw_cut}
use borrow.Author.Rules.{rules}
use Rattle.encoder.proofs.stretch.cross.Goals as goal
use Rattle.encoder.proofs.stretch.cross.Tie as tie
use Rattle.encoder.proofs.stretch.cross.Reads as contract
use Rattle.encoder.proofs.stretch.cross.Lts as places

-- the places on the way that the lemmas below speak of
abbrev After-moved_ends-moved : Type 0
After-moved_ends-moved = places.After-moved_ends tie.the-claims contract.Pre contract.Post tie.handed_clauses

-- the ends of the segment's clip
ends : (c : After-moved_ends-moved) → c.moved_ends-moved.result ≡ moved_by c.args.pen.raw c.args.p (clip c.args.b (record { p0 = c.args.pen.raw; p1 = c.args.p })).seg
ends c = c.moved_ends-moved.ensures ∙ ap (moved_by c.args.pen.raw c.args.p) c.clip_raw-cut.ensures

pub clip_raw-cut-requires : goal.clip_raw-cut-requires
clip_raw-cut-requires c = record { bbox_value = c.requires.b_value; raw_value = is_seg _ _ c.requires.steady.raw c.requires.p_value }

pub emit_ends-ends-requires : goal.emit_ends-ends-requires
emit_ends-ends-requires c = let whole = ends_asked _ c.args.ring _ c.args.p c.args.words.now c.requires.b_value _ (ends c.before) _ c.requires.steady.able (is_seg _ _ c.requires.steady.raw c.requires.p_value) in record { able = whole.0; end0_value = whole.1.0; end1_value = whole.1.1 }

pub emit-last-requires : goal.emit-last-requires
emit-last-requires c = let whole = cut_asked _ _ _ c.args.p _ c.requires.b_value _ (ends c.before.before.before.before.before.before) _ _ c.emit_ends-ends.ensures (is_seg _ _ c.requires.steady.raw c.requires.p_value) c.requires.steady.able (search rules) _ c.make_point-q.ensures in record { able = whole.0; coord = whole.1 }

pub returns : goal.returns
returns c = draw_cut _ _ _ c.args.p _ c.requires.b_value _ (ends c.before.before.before.before.before.before.before.before.before.before.before) _ _ c.emit_ends-ends.ensures _ c.make_point-q.ensures _ _ c.emit-last.ensures _ c.set_raw.ensures
