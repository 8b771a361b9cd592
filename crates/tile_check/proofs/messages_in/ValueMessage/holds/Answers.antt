-- Nothing that follows a right key of a value can be wrong.
use Rattle.tile_check.proofs.Rest.{value_holds}
use Rattle.tile_check.proofs.messages_in.ValueMessage.holds.Goals as goal

pub returns : goal.returns
returns c = value_holds _ _ _ c.requires
