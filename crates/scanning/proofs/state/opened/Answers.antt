-- A law for each depth.
use borrow.Author.Rules.{rules}
use Rattle.scanning.proofs.Turning.{open_none, open_unfit, open_one}
use Rattle.scanning.proofs.state.opened.Goals as goal

pub returns-then-n-m : goal.returns-then-n-m
returns-then-n-m c = search (rules, open_unfit)

pub returns-in-Outside : goal.returns-in-Outside
returns-in-Outside c = search (rules, open_none)

pub returns-else-n-m : goal.returns-else-n-m
returns-else-n-m c = search (rules, open_one)
