-- The name's length is asked twice, as a text's and against the room, and between these whether it is UTF-8; then it is laid at the front of the texts.
use Rattle.layer.proofs.Opening.{name_long, name_ill, name_full, name_done}
use borrow.Author.Rules.{rules}
use Rattle.layer.proofs.Layer.new.Goals as goal

pub returns-then-not-may_have : goal.returns-then-not-may_have
returns-then-not-may_have c = search (rules, name_long)

pub returns-then-not-is_utf8 : goal.returns-then-not-is_utf8
returns-then-not-is_utf8 c = search (rules, name_ill)

pub returns-then-smaller-len : goal.returns-then-smaller-len
returns-then-smaller-len c = search (rules, name_full)

pub returns : goal.returns
returns c = search (rules, name_done)
