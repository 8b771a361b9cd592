-- Too short a list is left alone; any other has room for the varint.
use native.Mathlib.Omega.{arith}
use Rattle.promise.proofs.Fronts.{put_short, put_done}
use Rattle.wire.proofs.varint.put_varint.Goals as goal

pub returns-then-out-size : goal.returns-then-out-size
returns-then-out-size c = put_short _ _ (omega arith)

pub returns : goal.returns
returns c = put_done (omega arith) c.lay_varint.ensures
