-- By the two cases of the answer.
use Rattle.brinepost.proofs.Structs.{start_done, start_not}
use borrow.Author.Rules.{rules}
use Rattle.brinepost.proofs.calls.begun.Goals as goal

pub returns-in-Ok : goal.returns-in-Ok
returns-in-Ok c = search (rules, start_done)

pub returns-in-Err : goal.returns-in-Err
returns-in-Err c = search (rules, start_not)
