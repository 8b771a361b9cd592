-- The test is the definition's.
use Rattle.promise.proofs.Cases.{tests}
use borrow.Author.Rules.{rules}
use Rattle.printed.proofs.separator.Goals as goal

pub returns-then-i-n : goal.returns-then-i-n
returns-then-i-n c = search (rules, tests)

pub returns : goal.returns
returns c = search (rules, tests)
