-- By the three cases of the answer.
use Rattle.brinepost_reader.proofs.Structs.{feature_is, feature_end, feature_not}
use borrow.Author.Rules.{rules}
use Rattle.brinepost_reader.proofs.features.answered.Goals as goal

pub returns-in-Ok-Some : goal.returns-in-Ok-Some
returns-in-Ok-Some c = search (rules, feature_is)

pub returns-in-Ok-None : goal.returns-in-Ok-None
returns-in-Ok-None c = search (rules, feature_end)

pub returns-in-Err : goal.returns-in-Err
returns-in-Err c = search (rules, feature_not)
