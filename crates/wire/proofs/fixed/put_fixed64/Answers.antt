-- The bytes are those of the number.
use Rattle.wire.proofs.Fields.{fixed64_put}
use Rattle.wire.proofs.fixed.put_fixed64.Goals as goal

pub returns : goal.returns
returns c = fixed64_put _ _ _ c.to_le_bytes-double.ensures _ _ _ c.put_headed.ensures
