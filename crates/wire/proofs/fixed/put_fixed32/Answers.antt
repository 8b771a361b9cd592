-- The bytes are those of the number.
use Rattle.wire.proofs.Fields.{fixed32_put}
use Rattle.wire.proofs.fixed.put_fixed32.Goals as goal

pub returns : goal.returns
returns c = fixed32_put _ _ _ c.to_le_bytes-float.ensures _ _ _ c.put_headed.ensures
