-- What the proved call said of the layer that C's numbers stand for.
use Rattle.brinepost_tiles.proofs.Calling.{called}
use Rattle.brinepost_tiles.proofs.layers.bp_into_feature.Goals as goal

pub returns : goal.returns
returns c =
    called _ _ c.layer_of-s.ensures c.into_feature-r.result _ c.changed.ensures _ _ _ c.into_feature-r.ensures
