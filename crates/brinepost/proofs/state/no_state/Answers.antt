-- Every number is 0, as in the definition.
use borrow.Author.Rules.{rules}
use Rattle.brinepost.specs.Carried.{nothing, point_to}
use Rattle.brinepost.proofs.state.no_state.Goals as goal

pub returns : goal.returns
unfolding nothing point_to
returns c = search rules
