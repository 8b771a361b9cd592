-- One law for each way of the code.
use borrow.Author.Rules.{rules}
use Rattle.scanning.proofs.Turning.{enter_on, enter_opens}
use Rattle.scanning.proofs.state.entered.Goals as goal

pub returns-in-On : goal.returns-in-On
returns-in-On c = search (rules, enter_on)

pub returns-in-Opens : goal.returns-in-Opens
returns-in-Opens c = search (rules, enter_opens)
