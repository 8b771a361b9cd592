-- The flag decides, as in the definition.
use borrow.Author.Rules.{rules}
use Rattle.brinepost.specs.Carried.{point_of}
use Rattle.promise.proofs.Cases.{tests}
use Rattle.brinepost.proofs.state.point_of.Goals as goal

pub returns-then-p-eq0 : goal.returns-then-p-eq0
unfolding point_of
returns-then-p-eq0 c = search (rules, tests)

pub returns : goal.returns
unfolding point_of
returns c = search (rules, tests)
