-- By the two cases of the answer.
use Rattle.brinepost_reader.proofs.Structs.{opened_good, opened_not}
use borrow.Author.Rules.{rules}
use Rattle.brinepost_reader.proofs.opened.answered.Goals as goal

pub returns-in-Ok : goal.returns-in-Ok
returns-in-Ok c = search (rules, opened_good)

pub returns-in-Err : goal.returns-in-Err
returns-in-Err c = search (rules, opened_not)
