-- Each return is the definition's case of its kind.
use Rattle.promise.proofs.Cases.{tests}
use borrow.Author.Rules.{rules}
use Rattle.table.proofs.is_zero.Goals as goal

pub returns-then-kind-eq-FLOAT : goal.returns-then-kind-eq-FLOAT
returns-then-kind-eq-FLOAT c = search (rules, tests)

pub returns-then-kind-eq-DOUBLE : goal.returns-then-kind-eq-DOUBLE
returns-then-kind-eq-DOUBLE c = search (rules, tests)

pub returns : goal.returns
returns c = search (rules, tests)
