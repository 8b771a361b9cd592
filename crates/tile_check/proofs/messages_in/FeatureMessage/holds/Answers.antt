-- A list of numbers is looked into, other fields need not be.
use borrow.Author.Rules.{rules}
use Rattle.tile_check.proofs.Rest.{list_holds, feature_holds}
use Rattle.tile_check.proofs.messages_in.FeatureMessage.holds.Goals as goal

pub returns-then-f : goal.returns-then-f
returns-then-f c = search (rules, list_holds)

pub returns : goal.returns
returns c = search (rules, feature_holds)
