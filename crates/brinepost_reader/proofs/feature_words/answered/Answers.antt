-- By the two cases of the answer.
use Rattle.brinepost_reader.proofs.Structs.{words_are, words_not}
use borrow.Author.Rules.{rules}
use Rattle.brinepost_reader.proofs.feature_words.answered.Goals as goal

pub returns-in-Ok : goal.returns-in-Ok
returns-in-Ok c = search (rules, words_are)

pub returns-in-Err : goal.returns-in-Err
returns-in-Err c = search (rules, words_not)
