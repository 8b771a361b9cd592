-- The part that is lent is the text.
use native.Mathlib.Omega.{arith}
use Rattle.promise.proofs.Fronts.{long_as}
use Rattle.tile.proofs.Texts.{text_end, text_lent}
use Rattle.tile.proofs.text.text_size.Goals as goal

pub overflow_add-end : goal.overflow_add-end
overflow_add-end c =
    omega (arith, text_end c.args.texts.now c.args.start c.args.len c.requires, c.well_formed)

pub slice_bounds-bytes_size-count : goal.slice_bounds-bytes_size-count
slice_bounds-bytes_size-count c = omega arith

pub slice_bounds-bytes_size-start : goal.slice_bounds-bytes_size-start
slice_bounds-bytes_size-start c = omega arith

pub slice_bounds-bytes_size-end : goal.slice_bounds-bytes_size-end
slice_bounds-bytes_size-end c =
    text_end c.args.texts.now c.args.start c.args.len c.requires

pub returns : goal.returns
returns c = long_as (text_lent _ _ _ _) c.bytes_size.ensures
