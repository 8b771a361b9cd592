-- The step is told by the verdict, which is asked only where the feature cannot be read.
use borrow.Author.Rules.{rules}
use Rattle.reader.proofs.WordsTold.{into_words, into_refused}
use Rattle.reader.proofs.into.words_into.Goals as goal

pub returns-in-Ok : goal.returns-in-Ok
returns-in-Ok c = search (rules, into_words)

pub returns-in-Err : goal.returns-in-Err
returns-in-Err c = search (rules, into_refused)
