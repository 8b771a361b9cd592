-- Both returns are the definition's case.
use Rattle.promise.proofs.Cases.{tests}
use borrow.Author.Rules.{rules}
use Rattle.layer.proofs.putting.stored_as.Goals as goal

pub returns-then-v-eq-TEXT : goal.returns-then-v-eq-TEXT
returns-then-v-eq-TEXT c = search (rules, tests)

pub returns : goal.returns
returns c = search (rules, tests)
