-- Eight bytes are four, and four behind them.
use Rattle.messages.proofs.Following.{eight_first, eight_second, four_little, eight_little}
use borrow.Author.Rules.{rules}
use Rattle.messages.proofs.field.little.Goals as goal

pub returns-then-n-eq4 : goal.returns-then-n-eq4
returns-then-n-eq4 c = search (rules, four_little)

pub four-requires-2 : goal.four-requires-2
four-requires-2 c = search (rules, eight_first)

pub four-requires-3 : goal.four-requires-3
four-requires-3 c = search (rules, eight_second)

pub returns : goal.returns
returns c = search (rules, eight_little)
