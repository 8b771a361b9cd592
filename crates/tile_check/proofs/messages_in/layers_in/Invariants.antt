-- The tile's layers are those counted and those among the fields that are still to be read.
use Prim.Native.Nat.{◌-◌}
use lib.ListN.{length}
use Rattle.tile_check.proofs.Counting.{Counted}
use Rattle.tile_check.proofs.messages_in.layers_in.Given as goal

abbrev pub invariant-loop-at : goal.invariant-loop-at
invariant-loop-at l = Counted l.src l.at l.n

abbrev pub decreases-loop-at : goal.decreases-loop-at
decreases-loop-at l = length l.src - l.at
