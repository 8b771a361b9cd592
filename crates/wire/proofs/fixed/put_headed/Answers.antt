-- Too short a list is left alone; in any other the head is put, and the bytes behind it.
use Prim.Native.Nat.{◌+◌, ◌≤◌}
use mathlib.Core.Path.{◌≡◌, refl}
use mathlib.Core.List.{◌++◌}
use native.Mathlib.Omega.{arith}
use lib.ListN.{length, length-append}
use Rattle.wire.specs.Schema.{head}
use Rattle.promise.proofs.Fronts.{put_short, both_inside, both_sum, both_done}
use Rattle.wire.proofs.Schema.{head_one}
use Rattle.wire.proofs.fixed.put_headed.Goals as goal
use Rattle.wire.proofs.fixed.put_headed.Tie as tie
use Rattle.wire.proofs.fixed.put_headed.Reads as reads
use Rattle.wire.proofs.fixed.put_headed.Lts as lts

-- the places on the way that the lemmas below speak of
abbrev After-head_size : Type 0
After-head_size = lts.After-head_size tie.the-claims reads.Pre reads.Post

abbrev After-slice_known-2-1 : Type 0
After-slice_known-2-1 = lts.After-slice_known2 tie.the-claims reads.Pre reads.Post

-- the size that was reckoned is that of both
size : (c : After-head_size) → c.head_size.result + length c.args.bytes.now ≡ length (head c.args.field ++ c.args.bytes.now)
size c = let s = c.args in omega (arith, c.head_size.ensures, length-append (head s.field) s.bytes.now)

-- where the head has been put, both have room
room : (c : After-slice_known-2-1) → length (head c.args.field ++ c.args.bytes.now) ≤ length c.args.out.now
room c = omega (arith, size c.before.before.before.before.before)

pub overflow_add-size : goal.overflow_add-size
overflow_add-size c = omega (arith, c.head_size.ensures, head_one c.args.field, c.well_formed.1.0.1)

pub returns-then-out-size : goal.returns-then-out-size
returns-then-out-size c = put_short _ _ (omega (arith, size c.before.before))

pub slice_bounds-put_run-count : goal.slice_bounds-put_run-count
slice_bounds-put_run-count c = both_inside _ (head c.args.field) c.args.bytes.now _ refl c.put_head-at.ensures (room c.before)

pub slice_bounds-put_run-start : goal.slice_bounds-put_run-start
slice_bounds-put_run-start c = both_inside _ (head c.args.field) c.args.bytes.now _ refl c.put_head-at.ensures (room c.before)

pub overflow_add-result : goal.overflow_add-result
overflow_add-result c =
    let e = both_sum _ (head c.args.field) c.args.bytes.now _ refl c.put_head-at.ensures (room c.before.before.before.before.before) c.put_run-count.ensures in
    omega (arith, e, room c.before.before.before.before.before)

pub returns : goal.returns
returns c =
    both_done _ (head c.args.field) c.args.bytes.now _ refl c.put_head-at.ensures (room c.before.before.before.before.before) c.put_run-count.ensures
