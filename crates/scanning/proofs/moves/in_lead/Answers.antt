-- One law for each way of the code.
use borrow.Author.Rules.{rules}
use Rattle.scanning.proofs.Phases.{lead_more, lead_ends}
use Rattle.scanning.proofs.moves.in_lead.Goals as goal

pub returns-in-More : goal.returns-in-More
returns-in-More c = search (rules, lead_more)

pub returns-in-Ends : goal.returns-in-Ends
returns-in-Ends c = search (rules, lead_ends)
