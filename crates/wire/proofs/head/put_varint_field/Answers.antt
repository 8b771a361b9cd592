-- Too short a list is left alone; in any other the head is put, and the number behind it.
use native.Mathlib.Omega.{arith}
use Rattle.promise.proofs.Fronts.{put_short, both_inside, both_sum, both_done}
use Rattle.wire.proofs.Fields.{varint_field_lem}
use Rattle.wire.proofs.head.put_varint_field.Goals as goal

pub returns-then-out-size : goal.returns-then-out-size
returns-then-out-size c = put_short _ _ (omega arith)

pub slice_bounds-put_varint-count : goal.slice_bounds-put_varint-count
slice_bounds-put_varint-count c = both_inside _ _ _ _ (varint_field_lem _ c.args.n) c.put_head-at.ensures (omega arith)

pub slice_bounds-put_varint-start : goal.slice_bounds-put_varint-start
slice_bounds-put_varint-start c = both_inside _ _ _ _ (varint_field_lem _ c.args.n) c.put_head-at.ensures (omega arith)

pub overflow_add-result : goal.overflow_add-result
overflow_add-result c = omega (arith, both_sum _ _ _ _ (varint_field_lem _ _) c.put_head-at.ensures (omega arith) c.put_varint-count.ensures)

pub returns : goal.returns
returns c = both_done _ _ _ _ (varint_field_lem _ _) c.put_head-at.ensures (omega arith) c.put_varint-count.ensures
