-- By cases on whether a feature is open.
use Rattle.layer.proofs.Fitting.{shut_is, open_is}
use borrow.Author.Rules.{rules}
use Rattle.layer.proofs.state.records_ok.Goals as goal

pub returns-in-None : goal.returns-in-None
returns-in-None c = search (rules, shut_is)

pub returns-in-Some : goal.returns-in-Some
returns-in-Some c = search (rules, open_is)
