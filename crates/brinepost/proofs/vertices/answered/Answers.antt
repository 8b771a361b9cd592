-- By the two cases of the answer.
use Rattle.brinepost.proofs.Structs.{read_done, read_not}
use borrow.Author.Rules.{rules}
use Rattle.brinepost.proofs.vertices.answered.Goals as goal

pub returns-in-Ok : goal.returns-in-Ok
returns-in-Ok c = search (rules, read_done)

pub returns-in-Err : goal.returns-in-Err
returns-in-Err c = search (rules, read_not)
