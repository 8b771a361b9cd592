-- By the two cases of the answer; a refusal's number is never 0.
use Rattle.brinepost.proofs.Structs.{drawn_done, drawn_not}
use borrow.Author.Rules.{rules}
use Rattle.brinepost.proofs.calls.answered.Goals as goal

pub returns-in-Ok : goal.returns-in-Ok
returns-in-Ok c = search (rules, drawn_done)

pub returns-in-Err : goal.returns-in-Err
returns-in-Err c = search (rules, drawn_not)
