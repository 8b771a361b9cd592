-- A phase that is not between fields stays.
use borrow.Author.Rules.{rules}
use Rattle.scanning.proofs.Turning.{settled_other}
use Rattle.scanning.proofs.state.settled.Goals as goal

pub returns-in_default : goal.returns-in_default
returns-in_default c = search (rules, settled_other)
