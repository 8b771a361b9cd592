-- A text, or any other kind.
use borrow.Author.Rules.{rules}
use Rattle.reader.proofs.Lowest.{text_there, text_none}
use Rattle.reader.proofs.entries.text_in.Goals as goal

pub returns-then-f-eq-VALUE_TEXT : goal.returns-then-f-eq-VALUE_TEXT
returns-then-f-eq-VALUE_TEXT c = search (rules, text_there)

pub returns : goal.returns
returns c = search (rules, text_none)
