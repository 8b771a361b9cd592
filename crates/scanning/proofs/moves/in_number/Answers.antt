-- A law for each digit.
use borrow.Author.Rules.{rules}
use Rattle.scanning.proofs.Phases.{number_more, number_ends}
use Rattle.scanning.proofs.moves.in_number.Goals as goal

pub returns-in-More : goal.returns-in-More
returns-in-More c = search (rules, number_more)

pub returns-in-Ends : goal.returns-in-Ends
returns-in-Ends c = search (rules, number_ends)
