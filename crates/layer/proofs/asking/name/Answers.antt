-- The name is the first text.
use Rattle.layer.proofs.Telling.{name_state, name_is}
use borrow.Author.Rules.{rules}
use Rattle.layer.proofs.asking.name.Goals as goal

pub returns-then-not-is_valid : goal.returns-then-not-is_valid
returns-then-not-is_valid c = search (rules, name_state)

pub returns : goal.returns
returns c = search (rules, name_is)
