-- What the proved call said of the layer that C's numbers stand for.
use Rattle.brinepost_tiles.proofs.Calling.{called}
use borrow.Author.Rules.{rules}
use Rattle.brinepost_tiles.proofs.layers.bp_abandon.Goals as goal

pub returns : goal.returns
returns c = search (rules, called)
