-- One law for each way of the code.
use borrow.Author.Rules.{rules}
use Rattle.scanning.proofs.Phases.{passing_more}
use Rattle.scanning.proofs.moves.passing.Goals as goal

pub returns : goal.returns
returns c = search (rules, passing_more)
