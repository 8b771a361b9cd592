-- By the two cases of the answer.
use Rattle.brinepost.proofs.Structs.{mapped_done, mapped_not}
use borrow.Author.Rules.{rules}
use Rattle.brinepost.proofs.surveyed.answered.Goals as goal

pub returns-in-Ok : goal.returns-in-Ok
returns-in-Ok c = search (rules, mapped_done)

pub returns-in-Err : goal.returns-in-Err
returns-in-Err c = search (rules, mapped_not)
