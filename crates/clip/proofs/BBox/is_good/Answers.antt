-- `clip::BBox::is_good` meets its contract: the six tests tell the definition's ten.
use borrow.Author.Rules.{rules}
use Rattle.clip.proofs.Returns.{edges_good}
use Rattle.clip.proofs.BBox.is_good.Goals as goal

pub returns : goal.returns
returns c = search (rules, edges_good)
