-- The kinds differ, or both are texts, or both are contents: the definition's cases.
use Rattle.table.proofs.Values.{same_texts}
use Rattle.promise.proofs.Cases.{tests}
use borrow.Author.Rules.{rules}
use Rattle.table.proofs.same_value.Goals as goal

pub returns-then-kind-v : goal.returns-then-kind-v
returns-then-kind-v c = search (rules, tests)

pub returns-then-kind-eq-TEXT : goal.returns-then-kind-eq-TEXT
returns-then-kind-eq-TEXT c = search (rules, same_texts)

pub returns : goal.returns
returns c = search (rules, tests)
