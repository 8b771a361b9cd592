-- By the count.
use Rattle.brinepost_tiles.proofs.Structs.{none_added, some_added}
use Rattle.brinepost_tiles.proofs.answers.layer_after.Goals as goal

pub returns-then-n-eq0 : goal.returns-then-n-eq0
returns-then-n-eq0 c = none_added _ _ _ c.if-n-eq0.true

pub returns : goal.returns
returns c = some_added _ _ _ _ c.if-n-eq0.false c.layer_to.ensures
