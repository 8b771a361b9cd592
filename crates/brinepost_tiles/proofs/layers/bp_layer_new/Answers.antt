-- What the proved call said, and the texts as it left them.
use Rattle.telling.proofs.Tellings.{told_gives}
use borrow.Author.Rules.{rules}
use Rattle.brinepost_tiles.proofs.layers.bp_layer_new.Goals as goal

pub returns : goal.returns
returns c = search (rules, told_gives)
