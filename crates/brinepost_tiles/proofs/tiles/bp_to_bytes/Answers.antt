-- What the proved question said of the tile that C's numbers stand for.
use Rattle.brinepost_tiles.specs.Answers.{flat_tile_counted}
use Rattle.brinepost_tiles.proofs.Calling.{asked}
use Rattle.brinepost_tiles.proofs.tiles.bp_to_bytes.Goals as goal

pub returns : goal.returns
returns c =
    asked flat_tile_counted _ _ _ c.tile_counted.ensures (rw c.tile_of-t.ensures at c.to_bytes-r.ensures)
