-- The flag decides, as in the definition.
use Rattle.promise.proofs.Cases.{tests}
use borrow.Author.Rules.{rules}
use Rattle.brinepost_tiles.proofs.carried.open_of.Goals as goal

pub returns-then-flag-eq0 : goal.returns-then-flag-eq0
returns-then-flag-eq0 c = search (rules, tests)

pub returns : goal.returns
returns c = search (rules, tests)
