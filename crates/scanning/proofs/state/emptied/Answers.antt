-- One law for each way of the code.
use borrow.Author.Rules.{rules}
use Rattle.scanning.proofs.Turning.{empty_none, empty_one, some_one, some_two, empty_both, empty_two}
use Rattle.scanning.proofs.state.emptied.Goals as goal

pub returns-then-n-eq0 : goal.returns-then-n-eq0
returns-then-n-eq0 c = search (rules, empty_one)

pub returns-then-n-gt0 : goal.returns-then-n-gt0
returns-then-n-gt0 c = search (rules, some_two)

pub returns-then-m-eq0 : goal.returns-then-m-eq0
returns-then-m-eq0 c = search (rules, empty_both)

pub returns-in-Outside : goal.returns-in-Outside
returns-in-Outside c = search (rules, empty_none)

pub returns-else-n-eq0 : goal.returns-else-n-eq0
returns-else-n-eq0 c = search (rules, some_one)

pub returns-else-m-eq0 : goal.returns-else-m-eq0
returns-else-m-eq0 c = search (rules, empty_two)
