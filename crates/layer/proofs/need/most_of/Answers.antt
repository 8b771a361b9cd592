-- The figures grow by the lengths at the tag's place.
use Rattle.layer.proofs.Walking.{small_tag, most_is}
use borrow.Author.Rules.{rules}
use Rattle.layer.proofs.need.most_of.Goals as goal

pub grown-requires : goal.grown-requires
grown-requires c = search (rules, small_tag)

pub returns : goal.returns
returns c = search (rules, most_is)
