-- What the proved question said of the layer that C's numbers stand for.
use Rattle.brinepost_tiles.specs.Answers.{flat_counted}
use Rattle.brinepost_tiles.proofs.Calling.{asked}
use Rattle.brinepost_tiles.proofs.asking.bp_num_features.Goals as goal

pub returns : goal.returns
returns c =
    asked flat_counted _ _ _ c.counted.ensures (rw c.layer_of-s.ensures at c.num_features-r.ensures)
