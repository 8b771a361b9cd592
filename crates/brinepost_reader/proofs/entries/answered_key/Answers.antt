-- By the three cases of the answer.
use Rattle.brinepost_reader.proofs.Structs.{key_is_lem, key_end, key_not}
use borrow.Author.Rules.{rules}
use Rattle.brinepost_reader.proofs.entries.answered_key.Goals as goal

pub returns-in-Ok-Some : goal.returns-in-Ok-Some
returns-in-Ok-Some c = search (rules, key_is_lem)

pub returns-in-Ok-None : goal.returns-in-Ok-None
returns-in-Ok-None c = search (rules, key_end)

pub returns-in-Err : goal.returns-in-Err
returns-in-Err c = search (rules, key_not)
