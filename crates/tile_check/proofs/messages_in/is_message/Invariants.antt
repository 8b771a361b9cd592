-- What stands from the start on is a message where what stands from the reached place on is.
use Prim.Native.Nat.{◌-◌}
use lib.ListN.{length}
use Rattle.tile_check.proofs.Rest.{Rest}
use Rattle.tile_check.proofs.messages_in.is_message.Given as goal

abbrev pub invariant-loop-at : goal.invariant-loop-at
invariant-loop-at g l = Rest g.M.Message.depth g.M.Message.KIND l.src l.start l.at

abbrev pub decreases-loop-at : goal.decreases-loop-at
decreases-loop-at g l = length l.src - l.at
