-- A count is added.
use borrow.Author.Rules.{rules}
use Rattle.reader.proofs.FeatureTold.{adds_are}
use Rattle.reader.proofs.features.with_tag_count.Goals as goal

pub with_tags-requires : goal.with_tags-requires
with_tags-requires c = search (rules, adds_are)
