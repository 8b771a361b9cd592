-- The bytes, and what stands before them.
use native.Mathlib.Omega.{arith}
use mathlib.Core.Path.{refl}
use lib.ListN.{length}
use Rattle.wire.proofs.Fields.{varint_field_short}
use Rattle.wire.proofs.Nested.{nested_long}
use Rattle.tile.proofs.text.bytes_size.Goals as goal

pub overflow_add-result : goal.overflow_add-result
overflow_add-result c =
    omega (arith, c.varint_field_size.ensures, varint_field_short c.args.field (length c.args.bytes.now), c.well_formed)

pub returns : goal.returns
returns c =
    nested_long c.args.field c.args.bytes.now _ refl _ c.varint_field_size.ensures
