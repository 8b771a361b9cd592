-- The three tests joined are the definition's.
use borrow.Author.Rules.{rules}
use Rattle.brinepost.specs.Carried.{are_flags}
use Rattle.brinepost.proofs.state.are_flags.Goals as goal

pub returns : goal.returns
unfolding are_flags
returns c = search rules
