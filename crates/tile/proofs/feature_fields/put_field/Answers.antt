-- The head and the length are put, and the message into the part that follows.
use native.Mathlib.Omega.{arith}
use Rattle.wire.specs.declared.field.Field.TheVariants.{LayerFeature}
use Rattle.tile.specs.Features.{record_message}
use Rattle.wire.proofs.Nested.{nested_inside, nested_room, nested_sum, nested_done}
use Rattle.tile.proofs.feature_fields.put_field.Goals as goal

pub feature_size-size-requires : goal.feature_size-size-requires
feature_size-size-requires c =
    c.requires.good

pub slice_bounds-put_feature-count : goal.slice_bounds-put_feature-count
slice_bounds-put_feature-count c =
    nested_inside LayerFeature (record_message c.args.words.now) _ c.feature_size-size.ensures c.args.out.now c.requires.room c.put_varint_field-at.ensures

pub slice_bounds-put_feature-start : goal.slice_bounds-put_feature-start
slice_bounds-put_feature-start c =
    nested_inside LayerFeature (record_message c.args.words.now) _ c.feature_size-size.ensures c.args.out.now c.requires.room c.put_varint_field-at.ensures

pub put_feature-count-requires : goal.put_feature-count-requires
put_feature-count-requires c =
    record { good = c.requires.good; room = nested_room LayerFeature (record_message c.args.words.now) _ c.feature_size-size.ensures c.args.out.now c.requires.room c.put_varint_field-at.ensures }

pub overflow_add-result : goal.overflow_add-result
overflow_add-result c =
    omega (arith, nested_sum LayerFeature (record_message c.args.words.now) _ c.feature_size-size.ensures c.args.out.now c.requires.room c.put_varint_field-at.ensures c.put_feature-count.ensures, c.well_formed)

pub returns : goal.returns
returns c =
    nested_done LayerFeature (record_message c.args.words.now) _ c.feature_size-size.ensures c.args.out.now c.requires.room c.put_varint_field-at.ensures c.put_feature-count.ensures
