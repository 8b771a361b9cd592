-- Field by field, the points by their flags.
use Rattle.brinepost.proofs.Carrying.{state_read}
use borrow.Author.Rules.{rules}
use Rattle.brinepost.proofs.state.state_of.Goals as goal

pub returns : goal.returns
returns c = search (rules, state_read)
