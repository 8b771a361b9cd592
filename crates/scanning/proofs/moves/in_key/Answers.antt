-- One law for each way of the code.
use borrow.Author.Rules.{rules}
use Rattle.scanning.proofs.Phases.{key_more, key_ends}
use Rattle.scanning.proofs.moves.in_key.Goals as goal

pub returns-in-More : goal.returns-in-More
returns-in-More c = search (rules, key_more)

pub returns-in-Ends : goal.returns-in-Ends
returns-in-Ends c = search (rules, key_ends)
