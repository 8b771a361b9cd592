-- By the kind.
use Rattle.promise.proofs.Cases.{tests}
use borrow.Author.Rules.{rules}
use Rattle.layer.proofs.tag_list.value_given.Goals as goal

pub returns-then-kind-eq-TEXT : goal.returns-then-kind-eq-TEXT
returns-then-kind-eq-TEXT c = search (rules, tests)

pub returns : goal.returns
returns c = search (rules, tests)
