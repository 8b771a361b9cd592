-- The first return is the definition's first case; the second is what `is_zero` answers of the two.
use Rattle.table.proofs.Values.{zeros}
use Rattle.promise.proofs.Cases.{cases}
use borrow.Author.Rules.{rules}
use Rattle.table.proofs.same_content.Goals as goal

pub returns-then-low-low2 : goal.returns-then-low-low2
returns-then-low-low2 c = search (rules, cases)

pub returns : goal.returns
returns c = search (rules, zeros)
