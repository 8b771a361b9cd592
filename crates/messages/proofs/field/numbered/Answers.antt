-- The field ends where its number does.
use Rattle.messages.proofs.Following.{numbered_is, numbered_not}
use borrow.Author.Rules.{rules}
use Rattle.messages.proofs.field.numbered.Goals as goal

pub returns-in_err-value : goal.returns-in_err-value
returns-in_err-value c = search (rules, numbered_not)

pub returns : goal.returns
returns c = search (rules, numbered_is)
