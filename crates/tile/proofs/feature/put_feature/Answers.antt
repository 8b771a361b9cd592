-- The message is that of the record's parts, which are lent.
use native.Mathlib.Omega.{arith}
use mathlib.Core.Path.{refl}
use Rattle.promise.proofs.Fronts.{put_as}
use Rattle.tile.proofs.Features.{record_lent, record_end}
use Rattle.tile.proofs.feature.put_feature.Goals as goal

pub bounds-words-5 : goal.bounds-words-5
bounds-words-5 c =
    omega (arith, c.requires.good)

pub overflow_add-tags : goal.overflow_add-tags
overflow_add-tags c = omega (arith, c.wide-tags.ensures)

pub bounds-words-4 : goal.bounds-words-4
bounds-words-4 c =
    omega (arith, c.requires.good)

pub overflow_add-end : goal.overflow_add-end
overflow_add-end c =
    omega (arith, c.wide-tags.ensures, c.wide.ensures)

pub bounds-words-0 : goal.bounds-words-0
bounds-words-0 c =
    omega (arith, c.requires.good)

pub bounds-words-1 : goal.bounds-words-1
bounds-words-1 c =
    omega (arith, c.requires.good)

pub bounds-words-2 : goal.bounds-words-2
bounds-words-2 c =
    omega (arith, c.requires.good)

pub bounds-words-3 : goal.bounds-words-3
bounds-words-3 c =
    omega (arith, c.requires.good)

pub offset_bounds-words-tags : goal.offset_bounds-words-tags
offset_bounds-words-tags c =
    omega (arith, record_end c.args.words.now _ _ _ _ c.wide-tags.ensures c.wide.ensures refl refl c.requires.good, c.well_formed)

pub slice_bounds-put_parts-count : goal.slice_bounds-put_parts-count
slice_bounds-put_parts-count c = omega arith

pub slice_bounds-put_parts-start : goal.slice_bounds-put_parts-start
slice_bounds-put_parts-start c = omega arith

pub slice_bounds-put_parts-end : goal.slice_bounds-put_parts-end
slice_bounds-put_parts-end c =
    record_end c.args.words.now _ _ _ _ c.wide-tags.ensures c.wide.ensures refl refl c.requires.good

pub slice_bounds-put_parts-count-2 : goal.slice_bounds-put_parts-count-2
slice_bounds-put_parts-count-2 c = omega arith

pub slice_bounds-put_parts-start-2 : goal.slice_bounds-put_parts-start-2
slice_bounds-put_parts-start-2 c = omega arith

pub slice_bounds-put_parts-end-2 : goal.slice_bounds-put_parts-end-2
slice_bounds-put_parts-end-2 c =
    omega (arith, record_end c.args.words.now _ _ _ _ c.wide-tags.ensures c.wide.ensures refl refl c.requires.good)

pub put_parts-requires : goal.put_parts-requires
put_parts-requires c =
    rw (record_lent c.args.words.now _ _ _ _ c.wide-tags.ensures c.wide.ensures refl refl) at c.requires.room

pub returns : goal.returns
returns c =
    put_as _ (record_lent c.args.words.now _ _ _ _ c.wide-tags.ensures c.wide.ensures refl refl) c.put_parts.ensures
