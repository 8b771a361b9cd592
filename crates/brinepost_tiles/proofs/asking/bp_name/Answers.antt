-- What the proved question said of the layer that C's numbers stand for.
use Rattle.brinepost_tiles.specs.Answers.{flat_named}
use Rattle.brinepost_tiles.proofs.Calling.{asked}
use Rattle.brinepost_tiles.proofs.asking.bp_name.Goals as goal

pub returns : goal.returns
returns c =
    asked flat_named _ _ _ c.named.ensures (rw c.layer_of-s.ensures at c.name-r.ensures)
