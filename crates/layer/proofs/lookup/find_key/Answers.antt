-- Both returns are the definition's case.
use Rattle.promise.proofs.Cases.{cases}
use borrow.Author.Rules.{rules}
use Rattle.layer.proofs.lookup.find_key.Goals as goal

pub returns-then-serves : goal.returns-then-serves
returns-then-serves c = search (rules, cases)

pub returns : goal.returns
returns c = search (rules, cases)
