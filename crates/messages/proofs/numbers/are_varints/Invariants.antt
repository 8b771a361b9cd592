-- What stands from the place on is varints where what stands from i on is. Each has bytes, so the loop ends.
use Prim.Native.Nat.{◌-◌}
use lib.ListN.{length}
use Rattle.messages.proofs.Packed.{Packed}
use Rattle.messages.proofs.numbers.are_varints.Given as goal

abbrev pub invariant-loop-i : goal.invariant-loop-i
invariant-loop-i l = Packed l.src l.at l.i

abbrev pub decreases-loop-i : goal.decreases-loop-i
decreases-loop-i l = length l.src - l.i
