-- The refusals are the chain's; else the memory is that of what was held at opening.
use Rattle.layer.proofs.Chains.{chain}
use Rattle.layer.proofs.Closing.{cut_back}
use borrow.Author.Rules.{rules}
use Rattle.layer.proofs.feature.abandon.Goals as goal

pub returns-then-not-is_valid : goal.returns-then-not-is_valid
returns-then-not-is_valid c = search (rules, chain)

pub returns-in_default : goal.returns-in_default
returns-in_default c = search (rules, chain)

pub returns : goal.returns
returns c = search (rules, cut_back)
