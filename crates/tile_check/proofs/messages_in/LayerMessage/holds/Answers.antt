-- Features and values are looked into, other fields need not be.
use borrow.Author.Rules.{rules}
use Rattle.tile_check.proofs.Rest.{features_hold, values_hold, layer_holds}
use Rattle.tile_check.proofs.messages_in.LayerMessage.holds.Goals as goal

pub returns-then-f-eq-LAYER_FEATURE : goal.returns-then-f-eq-LAYER_FEATURE
returns-then-f-eq-LAYER_FEATURE c = search (rules, features_hold)

pub returns-then-f-eq-LAYER_VALUE : goal.returns-then-f-eq-LAYER_VALUE
returns-then-f-eq-LAYER_VALUE c = search (rules, values_hold)

pub returns : goal.returns
returns c = search (rules, layer_holds)
