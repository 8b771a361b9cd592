-- By the two cases of the answer.
use Rattle.brinepost.proofs.Structs.{finish_done, finish_not}
use borrow.Author.Rules.{rules}
use Rattle.brinepost.proofs.finished.answered.Goals as goal

pub returns-in-Ok : goal.returns-in-Ok
returns-in-Ok c = search (rules, finish_done)

pub returns-in-Err : goal.returns-in-Err
returns-in-Err c = search (rules, finish_not)
