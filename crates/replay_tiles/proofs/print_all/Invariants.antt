-- Each turn goes on by a record, and stays within the cases.
use Prim.Native.Nat.{◌-◌, ◌≤◌}
use lib.ListN.{length}
use Rattle.replay_tiles.proofs.print_all.Given as goal

abbrev pub invariant-loop-at : goal.invariant-loop-at
invariant-loop-at g l = l.at ≤ length l.cases

abbrev pub decreases-loop-at : goal.decreases-loop-at
decreases-loop-at g l = length l.cases - l.at
