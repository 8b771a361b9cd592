-- By what the check of the whole tile answers.
use borrow.Author.Rules.{rules}
use Rattle.reader.proofs.Telling.{blames_place, blames_tile}
use Rattle.reader.proofs.blame.blame.Goals as goal

pub returns-in-Ok : goal.returns-in-Ok
returns-in-Ok c = search (rules, blames_place)

pub returns-in-Err : goal.returns-in-Err
returns-in-Err c = search (rules, blames_tile)
