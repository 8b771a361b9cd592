-- Number by number.
use Rattle.brinepost_tiles.proofs.tiles.bp_tile_new.Goals as goal

pub returns : goal.returns
returns c = cc
