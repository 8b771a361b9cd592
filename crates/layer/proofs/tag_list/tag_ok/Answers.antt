-- The two tests are those of the definition.
use Rattle.layer.proofs.Listing.{tag_tested}
use borrow.Author.Rules.{rules}
use Rattle.layer.proofs.tag_list.tag_ok.Goals as goal

pub returns : goal.returns
returns c = search (rules, tag_tested)
