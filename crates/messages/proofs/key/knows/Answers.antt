-- The message is a case of the definition by kind: each answer is its own law.
use borrow.Author.Rules.{rules}
use Rattle.messages.proofs.Keys.{knows_tile, knows_layer, knows_feature, knows_value}
use Rattle.messages.proofs.key.knows.Goals as goal

pub returns-in-Tile : goal.returns-in-Tile
returns-in-Tile c = search (rules, knows_tile, knows_layer, knows_feature, knows_value)

pub returns-in-Layer : goal.returns-in-Layer
returns-in-Layer c = search (rules, knows_tile, knows_layer, knows_feature, knows_value)

pub returns-in-Feature : goal.returns-in-Feature
returns-in-Feature c = search (rules, knows_tile, knows_layer, knows_feature, knows_value)

pub returns-in-Value : goal.returns-in-Value
returns-in-Value c = search (rules, knows_tile, knows_layer, knows_feature, knows_value)
