-- What the proved call said of the tile and the layer that C's numbers stand for.
use Rattle.brinepost_tiles.proofs.Calling.{tile_called}
use borrow.Author.Rules.{rules}
use Rattle.brinepost_tiles.proofs.tiles.bp_add_layer.Goals as goal

pub returns : goal.returns
returns c = search (rules, tile_called)
