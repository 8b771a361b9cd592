-- Where the entry has a link, two words are stored; else none.
use Rattle.promise.proofs.Cases.{tests}
use Rattle.index.proofs.Pushing.{in_heads, pushed_is}
use borrow.Author.Rules.{rules}
use Rattle.index.proofs.push.Goals as goal

pub returns-then-slots-n : goal.returns-then-slots-n
returns-then-slots-n c = search (rules, tests)

pub offset_bounds-index-b : goal.offset_bounds-index-b
offset_bounds-index-b c = search (rules, in_heads)

pub bounds-index-b : goal.bounds-index-b
bounds-index-b c = search (rules, in_heads)

pub offset_bounds-index-b-2 : goal.offset_bounds-index-b-2
offset_bounds-index-b-2 c = search (rules, in_heads)

pub bounds-index-b-2 : goal.bounds-index-b-2
bounds-index-b-2 c = search (rules, in_heads)

pub returns : goal.returns
returns c = search (rules, pushed_is)
