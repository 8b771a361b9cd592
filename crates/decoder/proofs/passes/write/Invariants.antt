-- The numbers of the vertices so far stand at the front, and what is ahead of the pen is the rest of the reading; no fault is met, for the words are read whole.
use Prim.Native.Nat.{◌-◌}
use lib.ListN.{length}
use Rattle.decoder.proofs.Standing.{Laid}
use Rattle.decoder.proofs.passes.write.Given as goal

abbrev pub invariant-loop-pen : goal.invariant-loop-pen
invariant-loop-pen l = Laid l.words l.initial.out l.out l.pen l.n

abbrev pub decreases-loop-pen : goal.decreases-loop-pen
decreases-loop-pen l = length l.words - l.pen.at
