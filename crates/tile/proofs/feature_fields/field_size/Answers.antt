-- The message's size, and that of the head and the length before it.
use native.Mathlib.Omega.{arith}
use Rattle.wire.specs.declared.field.Field.TheVariants.{LayerFeature}
use Rattle.tile.specs.Features.{record_message}
use Rattle.wire.proofs.Fields.{varint_field_short}
use Rattle.wire.proofs.Nested.{nested_long}
use Rattle.tile.proofs.Features.{record_short}
use Rattle.tile.proofs.feature_fields.field_size.Goals as goal

pub overflow_add-result : goal.overflow_add-result
overflow_add-result c =
    omega (arith, c.feature_size-size.ensures, c.varint_field_size.ensures, varint_field_short LayerFeature c.feature_size-size.result, record_short c.args.words.now, c.shared_slice_known-1.given 4, c.shared_slice_known-1.given 5, c.well_formed)

pub returns : goal.returns
returns c =
    nested_long LayerFeature (record_message c.args.words.now) _ c.feature_size-size.ensures _ c.varint_field_size.ensures
