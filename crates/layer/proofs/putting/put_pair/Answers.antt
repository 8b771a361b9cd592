-- The two words are laid, and then the count is stored.
use Rattle.layer.proofs.Entering.{pair_put}
use borrow.Author.Rules.{rules}
use Rattle.layer.proofs.putting.put_pair.Goals as goal

pub returns : goal.returns
returns c = search (rules, pair_put)
