-- There is no length, the body runs past the end, or it is there.
use Rattle.messages.proofs.Following.{begins_inside, bodied_past, bodied_is, bodied_not}
use borrow.Author.Rules.{rules}
use Rattle.messages.proofs.field.bodied.Goals as goal

pub overflow_sub-src : goal.overflow_sub-src
overflow_sub-src c = search (rules, begins_inside)

pub returns-then-src-start : goal.returns-then-src-start
returns-then-src-start c = search (rules, bodied_past)

pub returns-in_err-n : goal.returns-in_err-n
returns-in_err-n c = search (rules, bodied_not)

pub returns : goal.returns
returns c = search (rules, bodied_is)
