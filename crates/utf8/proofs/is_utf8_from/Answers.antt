use Rattle.utf8.proofs.Laws.{read_start, stops, onward, ends}
use borrow.Author.Rules.{rules}
use Rattle.utf8.proofs.is_utf8_from.Goals as goal

pub loop-i-init : goal.loop-i-init
loop-i-init c = search (rules, read_start)

pub returns-then-n-eq0 : goal.returns-then-n-eq0
returns-then-n-eq0 c = search (rules, stops)

pub loop-i-preserved : goal.loop-i-preserved
loop-i-preserved c = search (rules, onward)

pub returns : goal.returns
returns c = search (rules, ends)
