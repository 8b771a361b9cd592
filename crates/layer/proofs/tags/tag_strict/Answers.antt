-- AGAIN is the one check here; behind it, it is what `tag_open` makes of an open feature.
use Rattle.layer.proofs.Chains.{chain}
use Rattle.layer.proofs.Repeating.{tags_there}
use borrow.Author.Rules.{rules}
use Rattle.layer.proofs.tags.tag_strict.Goals as goal

pub is_new-requires : goal.is_new-requires
is_new-requires c = search (rules, tags_there)

pub returns-then-not-is_new : goal.returns-then-not-is_new
returns-then-not-is_new c = search (rules, chain)

pub returns : goal.returns
returns c = search (rules, chain)
