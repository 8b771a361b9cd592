-- Field by field, the open feature with its flag, strictness as a mark.
use Rattle.brinepost_tiles.proofs.Carrying.{layer_made}
use borrow.Author.Rules.{rules}
use Rattle.brinepost_tiles.proofs.carried.layer_to.Goals as goal

pub returns : goal.returns
returns c = search (rules, layer_made)
