-- A count is added.
use borrow.Author.Rules.{rules}
use Rattle.reader.proofs.FeatureTold.{adds_are}
use Rattle.reader.proofs.features.with_word_count.Goals as goal

pub with_words-requires : goal.with_words-requires
with_words-requires c = search (rules, adds_are)
