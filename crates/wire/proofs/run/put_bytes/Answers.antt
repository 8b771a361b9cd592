-- Too short a list is left alone; in any other the length is put, and the bytes behind it.
use native.Mathlib.Omega.{arith}
use Prim.Native.Nat.{◌+◌, ◌≤◌}
use mathlib.Core.Path.{◌≡◌}
use lib.ListN.{length}
use Rattle.wire.specs.Fields.{delimited}
use Rattle.promise.proofs.Fronts.{put_short, both_inside, both_sum, both_done}
use Rattle.wire.proofs.Fields.{varint_field_short, delimited_parts, delimited_long}
use Rattle.wire.proofs.run.put_bytes.Goals as goal
use Rattle.wire.proofs.run.put_bytes.Tie as tie
use Rattle.wire.proofs.run.put_bytes.Reads as reads
use Rattle.wire.proofs.run.put_bytes.Lts as lts

-- the places on the way that the lemmas below speak of
abbrev After-varint_field_size : Type 0
After-varint_field_size = lts.After-varint_field_size tie.the-claims reads.Pre reads.Post

abbrev After-slice_known-2-1 : Type 0
After-slice_known-2-1 = lts.After-slice_known2 tie.the-claims reads.Pre reads.Post

-- the size that was reckoned is the field's
size : (c : After-varint_field_size) → c.varint_field_size.result + length c.args.bytes.now ≡ length (delimited c.args.field c.args.bytes.now)
size c = let s = c.args in omega (arith, c.varint_field_size.ensures, delimited_long s.field s.bytes.now)

-- where the length has been put, the whole field has room
room : (c : After-slice_known-2-1) → length (delimited c.args.field c.args.bytes.now) ≤ length c.args.out.now
room c = omega (arith, size c.before.before.before.before.before)

pub overflow_add-size : goal.overflow_add-size
overflow_add-size c = omega (arith, c.varint_field_size.ensures, varint_field_short c.args.field (length c.args.bytes.now), c.well_formed.1.0.1)

pub returns-then-out-size : goal.returns-then-out-size
returns-then-out-size c = put_short _ _ (omega (arith, size c.before.before))

pub slice_bounds-put_run-count : goal.slice_bounds-put_run-count
slice_bounds-put_run-count c = both_inside _ _ _ _ (delimited_parts _ c.args.bytes.now) c.put_varint_field-at.ensures (room c.before)

pub slice_bounds-put_run-start : goal.slice_bounds-put_run-start
slice_bounds-put_run-start c = both_inside _ _ _ _ (delimited_parts _ c.args.bytes.now) c.put_varint_field-at.ensures (room c.before)

pub overflow_add-result : goal.overflow_add-result
overflow_add-result c =
    let e = both_sum _ _ _ _ (delimited_parts _ c.args.bytes.now) c.put_varint_field-at.ensures (room c.before.before.before.before.before) c.put_run-count.ensures in
    omega (arith, e, room c.before.before.before.before.before)

pub returns : goal.returns
returns c =
    both_done _ _ _ _ (delimited_parts _ c.args.bytes.now) c.put_varint_field-at.ensures (room c.before.before.before.before.before) c.put_run-count.ensures
