-- What the proved call said of the layer that C's numbers stand for.
use mir.Facts.{to_z-of_z}
use Rattle.brinepost_tiles.proofs.Calling.{called}
use Rattle.brinepost_tiles.proofs.tag_calls.bp_add_tag_int.Goals as goal

pub returns : goal.returns
returns c =
    called _ _ c.layer_of-s.ensures c.add_tag_int-r.result _ c.changed.ensures _ _ _ (rw (to_z-of_z c.ranges.val) at c.add_tag_int-r.ensures)
