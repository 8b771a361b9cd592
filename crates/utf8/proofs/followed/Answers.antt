use borrow.Author.Rules.{rules}
use Rattle.utf8.proofs.Laws.{cut, begin, differs, goes, done}
use Rattle.utf8.proofs.followed.Goals as goal

pub returns-then-text-i : goal.returns-then-text-i
returns-then-text-i c = search (rules, cut)

pub loop-k-init : goal.loop-k-init
loop-k-init c = search (rules, begin)

pub returns-then-not-lo-b : goal.returns-then-not-lo-b
returns-then-not-lo-b c = search (rules, differs)

pub loop-k-preserved : goal.loop-k-preserved
loop-k-preserved c = search (rules, goes)

pub returns : goal.returns
returns c = search (rules, done)
