-- Too short a list is left alone; any other has room for the bytes.
use mathlib.Core.Path.{refl}
use native.Mathlib.Omega.{arith}
use Rattle.promise.proofs.Fronts.{put_short, put_done}
use Rattle.promise.proofs.Copying.{copy_start, copy_turn, copy_done}
use Rattle.wire.proofs.run.put_run.Goals as goal

pub returns-then-out-bytes : goal.returns-then-out-bytes
returns-then-out-bytes c = put_short _ _ (omega arith)

pub loop-i-init : goal.loop-i-init
loop-i-init c = copy_start (omega arith)

pub loop-i-preserved : goal.loop-i-preserved
loop-i-preserved c = copy_turn c.loop-i.invariant _ _ 0 (omega arith) refl c.loop-i-test.true

pub returns : goal.returns
returns c = put_done (omega arith) (record { count_is = refl; list_is = copy_done c.loop-i.invariant c.loop-i-test.false })
