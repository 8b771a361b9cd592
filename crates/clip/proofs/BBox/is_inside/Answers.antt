-- `clip::BBox::is_inside` meets its contract: the four tests joined are the definition's.
use borrow.Author.Rules.{rules}
use Rattle.clip.specs.Domain.{is_inside}
use Rattle.clip.proofs.BBox.is_inside.Goals as goal

pub returns : goal.returns
unfolding is_inside
returns c = search rules
