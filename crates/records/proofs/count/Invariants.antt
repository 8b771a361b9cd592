-- The loop's invariant: n records have been met, and those from i on are still to be counted. Each record has words, so the loop ends.
use Prim.Native.Nat.{◌-◌}
use lib.ListN.{length}
use Rattle.records.proofs.Records.{Inv}
use Rattle.records.proofs.count.Given as goal

abbrev pub invariant-loop-i : goal.invariant-loop-i
invariant-loop-i l = Inv l.ws l.i l.n

abbrev pub decreases-loop-i : goal.decreases-loop-i
decreases-loop-i l = length l.ws - l.i
