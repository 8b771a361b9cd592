-- Even and odd.
use borrow.Author.Rules.{rules}
use Rattle.reader.proofs.Lowest.{zigzag_even, zigzag_odd}
use Rattle.reader.proofs.entries.from_zigzag.Goals as goal

pub returns-then-n-eq0 : goal.returns-then-n-eq0
returns-then-n-eq0 c = search (rules, zigzag_even)

pub returns : goal.returns
returns c = search (rules, zigzag_odd)
