-- The tests on bits are the tests of the numbers.
use Rattle.encoder.proofs.Comparing.{between_is}
use borrow.Author.Rules.{rules}
use Rattle.encoder.proofs.points.is_between.Goals as goal

pub returns : goal.returns
returns c = search (rules, between_is)
