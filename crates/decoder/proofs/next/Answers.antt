-- The tests are those of the definition, and what is handed on is its answer.
use borrow.Author.Rules.{rules}
use Rattle.decoder.proofs.Nexts.{next_behind, next_begin, next_short, next_draw}
use Rattle.decoder.proofs.next.Goals as goal

pub returns-then-words-at : goal.returns-then-words-at
returns-then-words-at c = search (rules, next_behind)

pub returns-then-left-eq0 : goal.returns-then-left-eq0
returns-then-left-eq0 c = search (rules, next_begin)

pub returns-then-words-at-2 : goal.returns-then-words-at-2
returns-then-words-at-2 c = search (rules, next_short)

pub returns : goal.returns
returns c = search (rules, next_draw)
