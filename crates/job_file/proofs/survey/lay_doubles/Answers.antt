use Prim.Native.Nat.{◌-◌}
use mathlib.Core.Path.{refl, sym, ◌∙◌, ap}
use native.Mathlib.Omega.{arith}
use lib.Ieee.{nan, binary64, of_bits}
use Rattle.promise.proofs.Copying.{copy_start, copy_turn, copy_done}
use Rattle.job_file.proofs.Surveying.{doubles_long, doubles_at}
use Rattle.job_file.proofs.survey.lay_doubles.Goals as goal

pub loop-i-init : goal.loop-i-init
loop-i-init c = (copy_start (omega (arith, c.requires, doubles_long c.args.numbers.now)), refl)

pub bounds-out-i : goal.bounds-out-i
bounds-out-i c =
    omega (arith, c.loop-i.invariant.0.long, c.loop-i.invariant.0.fits, doubles_long c.args.numbers.now, c.loop-i-test.true, c.loop-i.invariant.1)

pub loop-i-preserved : goal.loop-i-preserved
loop-i-preserved c =
    let numbers = c.args.numbers.now in (
      copy_turn c.loop-i.invariant.0 _ _ nan (omega arith) (c.double_of.ensures ∙ ap (of_bits binary64) c.of_halves.ensures ∙ sym (doubles_at numbers c.loop-i.i (omega (arith, c.loop-i-test.true, c.loop-i.invariant.1))))
          (omega (arith, doubles_long numbers, c.loop-i-test.true, c.loop-i.invariant.1)),
      c.loop-i.invariant.1,
    )

pub returns : goal.returns
returns c = copy_done c.loop-i.invariant.0 (omega (arith, c.loop-i-test.false, c.loop-i.invariant.1, doubles_long c.args.numbers.now))
