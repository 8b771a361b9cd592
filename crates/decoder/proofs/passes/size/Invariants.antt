-- The vertices counted so far and what is ahead of the pen are the whole reading; each command leaves less ahead.
use Prim.Native.Nat.{◌-◌}
use lib.ListN.{length}
use Rattle.decoder.proofs.Standing.{Counted}
use Rattle.decoder.proofs.passes.size.Given as goal

abbrev pub invariant-loop-pen : goal.invariant-loop-pen
invariant-loop-pen l = Counted l.words l.pen l.n

abbrev pub decreases-loop-pen : goal.decreases-loop-pen
decreases-loop-pen l = length l.words - l.pen.at
