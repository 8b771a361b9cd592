-- What the proved call said, and the texts as it left them.
use Rattle.telling.proofs.Tellings.{told_gives}
use Rattle.brinepost_tiles.proofs.tiles.bp_create_strict_layer.Goals as goal

pub returns : goal.returns
returns c =
    told_gives _ _ _ _ _ (rw c.tile_of-t.ensures at c.create_strict_layer-r.ensures) c.created.ensures
