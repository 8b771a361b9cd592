-- A law for each digit, and for one that goes on at the end of the list.
use borrow.Author.Rules.{rules}
use Rattle.scanning.proofs.Phases.{packed_more, packed_ends}
use Rattle.scanning.proofs.moves.in_packed.Goals as goal

pub returns-else-n-eq0 : goal.returns-else-n-eq0
returns-else-n-eq0 c = search (rules, packed_more)

pub returns-in-Ends : goal.returns-in-Ends
returns-in-Ends c = search (rules, packed_ends)
