-- The definition's tests are the code's.
use borrow.Author.Rules.{rules}
use Rattle.promise.proofs.Cases.{tests}
use Rattle.scanning.proofs.alive.least.Goals as goal

pub returns-then-wire-eq-FIXED64 : goal.returns-then-wire-eq-FIXED64
returns-then-wire-eq-FIXED64 c = search (rules, tests)

pub returns-then-wire-eq-FIXED32 : goal.returns-then-wire-eq-FIXED32
returns-then-wire-eq-FIXED32 c = search (rules, tests)

pub returns : goal.returns
returns c = search (rules, tests)
