-- The part that is lent is the text.
use native.Mathlib.Omega.{arith}
use Rattle.promise.proofs.Fronts.{put_as}
use Rattle.tile.proofs.Texts.{text_end, text_lent}
use Rattle.tile.proofs.text.put_text.Goals as goal

pub overflow_add-end : goal.overflow_add-end
overflow_add-end c =
    omega (arith, text_end c.args.texts.now c.args.start c.args.len c.requires.good, c.well_formed)

pub slice_bounds-put_bytes-count : goal.slice_bounds-put_bytes-count
slice_bounds-put_bytes-count c = omega arith

pub slice_bounds-put_bytes-start : goal.slice_bounds-put_bytes-start
slice_bounds-put_bytes-start c = omega arith

pub slice_bounds-put_bytes-end : goal.slice_bounds-put_bytes-end
slice_bounds-put_bytes-end c =
    text_end c.args.texts.now c.args.start c.args.len c.requires.good

pub returns : goal.returns
returns c =
    put_as _ (text_lent _ _ _ _) c.put_bytes.ensures
