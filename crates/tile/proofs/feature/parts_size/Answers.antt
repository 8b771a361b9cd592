-- The sizes of the parts; each word takes ten bytes at most.
use native.Mathlib.Omega.{arith}
use Rattle.tile.proofs.Features.{message_long, message_short}
use Rattle.tile.proofs.feature.parts_size.Goals as goal

pub overflow_add-result : goal.overflow_add-result
overflow_add-result c =
    omega (arith, c.id_size-id.ensures, c.packed_size-tag.ensures, c.varint_field_size-kinds.ensures, c.packed_size-words.ensures, message_long c.args.kind c.args.mark c.args.low c.args.high c.args.tags.now c.args.geometry.now, message_short c.args.kind c.args.mark c.args.low c.args.high c.args.tags.now c.args.geometry.now, c.requires)

pub overflow_add-result-2 : goal.overflow_add-result-2
overflow_add-result-2 c =
    omega (arith, c.id_size-id.ensures, c.packed_size-tag.ensures, c.varint_field_size-kinds.ensures, c.packed_size-words.ensures, message_long c.args.kind c.args.mark c.args.low c.args.high c.args.tags.now c.args.geometry.now, message_short c.args.kind c.args.mark c.args.low c.args.high c.args.tags.now c.args.geometry.now, c.requires)

pub overflow_add-result-3 : goal.overflow_add-result-3
overflow_add-result-3 c =
    omega (arith, c.id_size-id.ensures, c.packed_size-tag.ensures, c.varint_field_size-kinds.ensures, c.packed_size-words.ensures, message_long c.args.kind c.args.mark c.args.low c.args.high c.args.tags.now c.args.geometry.now, message_short c.args.kind c.args.mark c.args.low c.args.high c.args.tags.now c.args.geometry.now, c.requires)

pub returns : goal.returns
returns c =
    omega (arith, c.id_size-id.ensures, c.packed_size-tag.ensures, c.varint_field_size-kinds.ensures, c.packed_size-words.ensures, message_long c.args.kind c.args.mark c.args.low c.args.high c.args.tags.now c.args.geometry.now)
