-- Each return is the definition's case.
use Rattle.layer.proofs.Noting.{note_none, note_old, note_new}
use borrow.Author.Rules.{rules}
use Rattle.layer.proofs.lookup.note.Goals as goal

pub returns-then-not-serves : goal.returns-then-not-serves
returns-then-not-serves c = search (rules, note_none)

pub returns-in-Some : goal.returns-in-Some
returns-in-Some c = search (rules, note_old)

pub returns-in-None : goal.returns-in-None
returns-in-None c = search (rules, note_new)
