use Prim.Native.Nat.{◌-◌}
use mathlib.Core.Path.{sym, ◌∙◌}
use native.Mathlib.Omega.{arith}
use Rattle.promise.proofs.Copying.{copy_start, copy_turn, copy_done}
use Rattle.number_file.proofs.Places.{numbers_long, numbers_at}
use Rattle.number_file.proofs.lay_numbers.Goals as goal

pub loop-i-init : goal.loop-i-init
loop-i-init c = copy_start (omega (arith, numbers_long c.args.bytes.now))

pub loop-i-preserved : goal.loop-i-preserved
loop-i-preserved c =
    let bytes = c.args.bytes.now in
    copy_turn c.loop-i.invariant _ _ 0 (omega arith) (c.number_at.ensures ∙ sym (numbers_at bytes c.loop-i.i (omega arith))) (omega (arith, numbers_long bytes))

pub returns : goal.returns
returns c = copy_done c.loop-i.invariant (omega (arith, numbers_long c.args.bytes.now))
