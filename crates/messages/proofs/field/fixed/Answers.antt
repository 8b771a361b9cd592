-- The bytes are there, or not.
use Rattle.messages.proofs.Following.{fixed_past, fixed_is}
use borrow.Author.Rules.{rules}
use Rattle.messages.proofs.field.fixed.Goals as goal

pub returns-then-src-at : goal.returns-then-src-at
returns-then-src-at c = search (rules, fixed_past)

pub returns : goal.returns
returns c = search (rules, fixed_is)
