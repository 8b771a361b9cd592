-- A head of one byte and a varint of ten at most.
use native.Mathlib.Omega.{arith}
use Rattle.wire.proofs.Varints.{varint_ten}
use Rattle.wire.proofs.Schema.{head_one}
use Rattle.wire.proofs.Fields.{varint_field_long}
use Rattle.wire.proofs.head.varint_field_size.Goals as goal

pub overflow_add-result : goal.overflow_add-result
overflow_add-result c = let a = c.args in omega (arith, c.head_size.ensures, c.varint_size.ensures, head_one a.field, varint_ten a.n)

pub returns : goal.returns
returns c = let a = c.args in omega (arith, c.head_size.ensures, c.varint_size.ensures, head_one a.field, varint_field_long a.field a.n)
