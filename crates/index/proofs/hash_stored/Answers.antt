-- Both returns are the definition's case.
use Rattle.promise.proofs.Cases.{tests}
use Rattle.index.proofs.Hashing.{stored_text}
use borrow.Author.Rules.{rules}
use Rattle.index.proofs.hash_stored.Goals as goal

pub returns-then-kind-eq-TEXT : goal.returns-then-kind-eq-TEXT
returns-then-kind-eq-TEXT c = search (rules, stored_text)

pub returns : goal.returns
returns c = search (rules, tests)
