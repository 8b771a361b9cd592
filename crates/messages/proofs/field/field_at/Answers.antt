-- A key, and what follows it.
use Rattle.messages.proofs.Following.{field_no_key, field_short, field_inside, field_is}
use borrow.Author.Rules.{rules}
use Rattle.messages.proofs.field.field_at.Goals as goal

pub content-requires : goal.content-requires
content-requires c = search (rules, field_short, field_inside)

pub returns-in_err-key : goal.returns-in_err-key
returns-in_err-key c = search (rules, field_no_key)

pub returns : goal.returns
returns c = search (rules, field_is)
