-- By the two cases of the answer.
use Rattle.brinepost_tiles.proofs.Structs.{tile_done, tile_not}
use borrow.Author.Rules.{rules}
use Rattle.brinepost_tiles.proofs.answers.tile_counted.Goals as goal

pub returns-in-Ok : goal.returns-in-Ok
returns-in-Ok c = search (rules, tile_done)

pub returns-in-Err : goal.returns-in-Err
returns-in-Err c = search (rules, tile_not)
