-- The head is the varint of the key.
use Rattle.wire.proofs.Fields.{head_put}
use Rattle.wire.proofs.head.put_head.Goals as goal

pub returns : goal.returns
returns c = head_put _ _ c.key-key.ensures _ _ _ c.put_varint.ensures
