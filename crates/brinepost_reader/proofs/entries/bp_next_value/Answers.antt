-- What the reader said.
use Rattle.brinepost_reader.proofs.Structs.{told_answers}
use borrow.Author.Rules.{rules}
use Rattle.brinepost_reader.proofs.entries.bp_next_value.Goals as goal

pub returns : goal.returns
returns c = search (rules, told_answers)
