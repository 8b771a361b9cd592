-- By the two cases of the answer.
use Rattle.brinepost_tiles.proofs.Structs.{named_done, named_not}
use borrow.Author.Rules.{rules}
use Rattle.brinepost_tiles.proofs.answers.named.Goals as goal

pub returns-in-Ok : goal.returns-in-Ok
returns-in-Ok c = search (rules, named_done)

pub returns-in-Err : goal.returns-in-Err
returns-in-Err c = search (rules, named_not)
