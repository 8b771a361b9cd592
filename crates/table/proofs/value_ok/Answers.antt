-- Each return is the definition's case of its kind.
use Rattle.table.proofs.Values.{text_ok}
use Rattle.promise.proofs.Cases.{tests}
use borrow.Author.Rules.{rules}
use Rattle.table.proofs.value_ok.Goals as goal

pub returns-then-kind-eq-TEXT : goal.returns-then-kind-eq-TEXT
returns-then-kind-eq-TEXT c = search (rules, text_ok)

pub returns-then-kind-eq-FLOAT : goal.returns-then-kind-eq-FLOAT
returns-then-kind-eq-FLOAT c = search (rules, tests)

pub returns-then-kind-eq-BOOL : goal.returns-then-kind-eq-BOOL
returns-then-kind-eq-BOOL c = search (rules, tests)

pub returns : goal.returns
returns c = search (rules, tests)
