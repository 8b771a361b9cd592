-- The broken layer, as C carries it.
use Rattle.brinepost_tiles.proofs.carried.no_layer.Goals as goal

pub returns : goal.returns
returns c = rw c.broken_layer.ensures at c.layer_to.ensures
