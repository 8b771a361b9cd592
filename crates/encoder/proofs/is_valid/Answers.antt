-- Each rule of STATE is one of the joined tests.
use Rattle.encoder.proofs.States.{rules_joined}
use borrow.Author.Rules.{rules}
use Rattle.encoder.proofs.is_valid.Goals as goal

pub returns : goal.returns
returns c = search (rules, rules_joined)
