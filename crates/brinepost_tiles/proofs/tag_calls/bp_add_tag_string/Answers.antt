-- What the proved call said of the layer that C's numbers stand for.
use Rattle.brinepost_tiles.proofs.Calling.{called}
use Rattle.brinepost_tiles.proofs.tag_calls.bp_add_tag_string.Goals as goal

pub returns : goal.returns
returns c =
    called _ _ c.layer_of-s.ensures c.add_tag_string-r.result _ c.changed.ensures _ _ _ c.add_tag_string-r.ensures
