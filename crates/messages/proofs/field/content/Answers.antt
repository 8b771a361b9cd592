-- By what follows, a call for each.
use Rattle.messages.proofs.Following.{content_bytes, content_wrong, content_varint, content_fixed, content_body}
use borrow.Author.Rules.{rules}
use Rattle.messages.proofs.field.content.Goals as goal

pub fixed-requires : goal.fixed-requires
fixed-requires c = search (rules, content_bytes)

pub returns-in-Wrong : goal.returns-in-Wrong
returns-in-Wrong c = search (rules, content_wrong)

pub returns-in-AVarint : goal.returns-in-AVarint
returns-in-AVarint c = search (rules, content_varint)

pub returns-in-Bytes : goal.returns-in-Bytes
returns-in-Bytes c = search (rules, content_fixed)

pub returns-in-ABody : goal.returns-in-ABody
returns-in-ABody c = search (rules, content_body)
