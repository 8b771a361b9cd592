-- The message's size, and that of the head and the length before it.
use native.Mathlib.Omega.{arith}
use Rattle.wire.specs.declared.field.Field.TheVariants.{LayerValue}
use Rattle.tile.specs.Values.{value_message}
use Rattle.wire.proofs.Fields.{varint_field_short}
use Rattle.wire.proofs.Nested.{nested_long}
use Rattle.tile.proofs.Values.{value_short}
use Rattle.tile.proofs.value_fields.field_size.Goals as goal

pub overflow_add-result : goal.overflow_add-result
overflow_add-result c =
    omega (arith, c.value_size-size.ensures, c.varint_field_size.ensures, varint_field_short LayerValue c.value_size-size.result, value_short c.args.texts.now c.args.kind c.args.low c.args.high, c.well_formed)

pub returns : goal.returns
returns c =
    nested_long LayerValue (value_message c.args.texts.now c.args.kind c.args.low c.args.high) _ c.value_size-size.ensures _ c.varint_field_size.ensures
