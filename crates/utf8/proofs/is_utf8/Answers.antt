use Rattle.utf8.proofs.Laws.{ascii_more, ends, rest_tells}
use borrow.Author.Rules.{rules}
use Rattle.utf8.proofs.is_utf8.Goals as goal

pub returns-then-text-i-gt-ASCII_HIGH : goal.returns-then-text-i-gt-ASCII_HIGH
returns-then-text-i-gt-ASCII_HIGH c = rest_tells _ 0 _ c.loop-i.invariant _ c.is_utf8_from.ensures

pub loop-i-preserved : goal.loop-i-preserved
loop-i-preserved c = search (rules, ascii_more)

pub returns : goal.returns
returns c = ends _ 0 _ c.loop-i.invariant (search rules)
