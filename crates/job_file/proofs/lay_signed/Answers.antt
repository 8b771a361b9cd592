use mir.Syntax.{w32}
use Prim.Native.Nat.{◌-◌}
use mathlib.Core.Path.{sym, ◌∙◌}
use native.Mathlib.Omega.{arith}
use lib.IntN.{pos}
use lib.ListN.{length-map, get_or-map}
use mir.Facts.{to_z-of_z}
use Rattle.promise.proofs.Copying.{copy_start, copy_turn, copy_done}
use Rattle.whole.specs.Twos.{signed32}
use Rattle.job_file.proofs.lay_signed.Goals as goal

pub loop-i-init : goal.loop-i-init
loop-i-init c = copy_start (omega (arith, c.requires, length-map c.args.numbers.now signed32))

pub bounds-out-i : goal.bounds-out-i
bounds-out-i c = omega (arith, c.loop-i.invariant.long, c.loop-i.invariant.fits, length-map c.args.numbers.now signed32)

pub loop-i-preserved : goal.loop-i-preserved
loop-i-preserved c = copy_turn c.loop-i.invariant _ _ (pos 0) (omega arith) (to_z-of_z {w = w32} (record { sfits = c.signed32.type_inv }) ∙ c.signed32.ensures ∙ sym (get_or-map signed32 c.args.numbers.now c.loop-i.i 0)) (omega (arith, length-map c.args.numbers.now signed32))

pub returns : goal.returns
returns c = copy_done c.loop-i.invariant (omega (arith, length-map c.args.numbers.now signed32))
