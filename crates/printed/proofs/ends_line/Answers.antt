-- The tests are the definition's.
use Rattle.promise.proofs.Cases.{tests}
use borrow.Author.Rules.{rules}
use Rattle.printed.proofs.ends_line.Goals as goal

pub returns-then-i-eq31 : goal.returns-then-i-eq31
returns-then-i-eq31 c = search (rules, tests)

pub returns : goal.returns
returns c = search (rules, tests)
