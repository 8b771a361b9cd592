-- By the two cases of the answer. A refusal's number is never 0.
use Rattle.brinepost_tiles.proofs.Structs.{changed_done, changed_not}
use borrow.Author.Rules.{rules}
use Rattle.brinepost_tiles.proofs.answers.changed.Goals as goal

pub returns-in-Ok : goal.returns-in-Ok
returns-in-Ok c = search (rules, changed_done)

pub returns-in-Err : goal.returns-in-Err
returns-in-Err c = search (rules, changed_not)
