-- `clip::BBox::overlaps` meets its contract: the rectangles overlap where the segment lies beside the box neither in x nor in y.
use mathlib.Core.Path.{sym, ◌∙◌, ap}
use mathlib.Core.Bool.{not}
use Rattle.clip.proofs.Returns.{overlap_beside, overlap_beyond}
use Rattle.clip.proofs.BBox.overlaps.Goals as goal

pub returns-then-is_beside : goal.returns-then-is_beside
returns-then-is_beside c = overlap_beside c.args.b c.args.s (sym c.is_beside.ensures ∙ c.if-is_beside.true)

pub returns : goal.returns
returns c =
    ap not c.is_beyond.ensures ∙ overlap_beyond c.args.b c.args.s (sym c.is_beside.ensures ∙ c.if-is_beside.false)
