-- Four bytes that stand one behind the other.
use Rattle.messages.proofs.Following.{four_is}
use borrow.Author.Rules.{rules}
use Rattle.messages.proofs.field.four.Goals as goal

pub returns : goal.returns
returns c = search (rules, four_is)
