-- What the check said.
use Rattle.brinepost_reader.proofs.Structs.{told_answers}
use borrow.Author.Rules.{rules}
use Rattle.brinepost_reader.proofs.opened.bp_open.Goals as goal

pub returns : goal.returns
returns c = search (rules, told_answers)
