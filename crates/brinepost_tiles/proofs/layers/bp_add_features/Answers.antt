-- What the proved call said of the layer that C's numbers stand for.
use Rattle.brinepost_tiles.proofs.Calling.{many_called}
use Rattle.brinepost_tiles.proofs.layers.bp_add_features.Goals as goal

pub returns : goal.returns
returns c = many_called _ _ c.layer_of-s.ensures c.add_features-r.result _ c.many_added.ensures _ _ _ _ _ _ _ c.add_features-r.ensures
