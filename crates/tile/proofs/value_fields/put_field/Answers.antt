-- The head and the length are put, and the message into the part that follows.
use native.Mathlib.Omega.{arith}
use Rattle.wire.specs.declared.field.Field.TheVariants.{LayerValue}
use Rattle.tile.specs.Values.{value_message}
use Rattle.wire.proofs.Nested.{nested_inside, nested_room, nested_sum, nested_done}
use Rattle.tile.proofs.value_fields.put_field.Goals as goal

pub value_size-size-requires : goal.value_size-size-requires
value_size-size-requires c =
    c.requires.good

pub slice_bounds-put_value-count : goal.slice_bounds-put_value-count
slice_bounds-put_value-count c =
    nested_inside LayerValue (value_message c.args.texts.now c.args.kind c.args.low c.args.high) _ c.value_size-size.ensures c.args.out.now c.requires.room c.put_varint_field-at.ensures

pub slice_bounds-put_value-start : goal.slice_bounds-put_value-start
slice_bounds-put_value-start c =
    nested_inside LayerValue (value_message c.args.texts.now c.args.kind c.args.low c.args.high) _ c.value_size-size.ensures c.args.out.now c.requires.room c.put_varint_field-at.ensures

pub put_value-count-requires : goal.put_value-count-requires
put_value-count-requires c =
    record { good = c.requires.good; room = nested_room LayerValue (value_message c.args.texts.now c.args.kind c.args.low c.args.high) _ c.value_size-size.ensures c.args.out.now c.requires.room c.put_varint_field-at.ensures }

pub overflow_add-result : goal.overflow_add-result
overflow_add-result c =
    omega (arith, nested_sum LayerValue (value_message c.args.texts.now c.args.kind c.args.low c.args.high) _ c.value_size-size.ensures c.args.out.now c.requires.room c.put_varint_field-at.ensures c.put_value-count.ensures, c.well_formed)

pub returns : goal.returns
returns c =
    nested_done LayerValue (value_message c.args.texts.now c.args.kind c.args.low c.args.high) _ c.value_size-size.ensures c.args.out.now c.requires.room c.put_varint_field-at.ensures c.put_value-count.ensures
