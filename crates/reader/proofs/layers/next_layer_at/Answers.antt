-- What the call meets is told by the verdict, which is asked only where something cannot be read.
use borrow.Author.Rules.{rules}
use Rattle.reader.proofs.Telling.{says_layer, refuses_layer}
use Rattle.reader.proofs.layers.next_layer_at.Goals as goal

pub returns-in-Ok : goal.returns-in-Ok
returns-in-Ok c = search (rules, says_layer)

pub returns-in-Err : goal.returns-in-Err
returns-in-Err c = search (rules, refuses_layer)
