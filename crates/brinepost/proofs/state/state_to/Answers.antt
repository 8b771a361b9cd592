-- Field by field, the points with their flags.
use Rattle.brinepost.proofs.Carrying.{state_made}
use borrow.Author.Rules.{rules}
use Rattle.brinepost.proofs.state.state_to.Goals as goal

pub returns : goal.returns
returns c = search (rules, state_made)
