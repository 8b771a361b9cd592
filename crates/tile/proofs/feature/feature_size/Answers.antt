-- The message is that of the record's parts, which are lent.
use native.Mathlib.Omega.{arith}
use mathlib.Core.Path.{refl}
use Rattle.promise.proofs.Fronts.{long_as}
use Rattle.tile.proofs.Features.{record_lent, record_end, parts_few}
use Rattle.tile.proofs.feature.feature_size.Goals as goal

pub bounds-words-5 : goal.bounds-words-5
bounds-words-5 c =
    omega (arith, c.requires)

pub overflow_add-tags : goal.overflow_add-tags
overflow_add-tags c = omega (arith, c.wide-tags.ensures)

pub bounds-words-4 : goal.bounds-words-4
bounds-words-4 c =
    omega (arith, c.requires)

pub overflow_add-end : goal.overflow_add-end
overflow_add-end c =
    omega (arith, c.wide-tags.ensures, c.wide.ensures)

pub bounds-words-0 : goal.bounds-words-0
bounds-words-0 c =
    omega (arith, c.requires)

pub bounds-words-1 : goal.bounds-words-1
bounds-words-1 c =
    omega (arith, c.requires)

pub bounds-words-2 : goal.bounds-words-2
bounds-words-2 c =
    omega (arith, c.requires)

pub bounds-words-3 : goal.bounds-words-3
bounds-words-3 c =
    omega (arith, c.requires)

pub offset_bounds-words-tags : goal.offset_bounds-words-tags
offset_bounds-words-tags c =
    omega (arith, record_end c.args.words.now _ _ _ _ c.wide-tags.ensures c.wide.ensures refl refl c.requires, c.well_formed)

pub slice_bounds-parts_size-count : goal.slice_bounds-parts_size-count
slice_bounds-parts_size-count c = omega arith

pub slice_bounds-parts_size-start : goal.slice_bounds-parts_size-start
slice_bounds-parts_size-start c = omega arith

pub slice_bounds-parts_size-end : goal.slice_bounds-parts_size-end
slice_bounds-parts_size-end c =
    record_end c.args.words.now _ _ _ _ c.wide-tags.ensures c.wide.ensures refl refl c.requires

pub slice_bounds-parts_size-count-2 : goal.slice_bounds-parts_size-count-2
slice_bounds-parts_size-count-2 c = omega arith

pub slice_bounds-parts_size-start-2 : goal.slice_bounds-parts_size-start-2
slice_bounds-parts_size-start-2 c = omega arith

pub slice_bounds-parts_size-end-2 : goal.slice_bounds-parts_size-end-2
slice_bounds-parts_size-end-2 c =
    omega (arith, record_end c.args.words.now _ _ _ _ c.wide-tags.ensures c.wide.ensures refl refl c.requires)

pub parts_size-requires : goal.parts_size-requires
parts_size-requires c =
    parts_few c.args.words.now _ _ _ _ c.wide-tags.ensures c.wide.ensures refl refl

pub returns : goal.returns
returns c =
    long_as (record_lent c.args.words.now _ _ _ _ c.wide-tags.ensures c.wide.ensures refl refl) c.parts_size.ensures
