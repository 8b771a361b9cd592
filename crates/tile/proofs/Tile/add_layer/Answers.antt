-- The refusals are the chain's, and what follows it is what `append` answers.
use Rattle.layer.specs.Held.{mem, seen}
use Rattle.tile.specs.Tiles.{lists}
use Rattle.tile.specs.Steps.{Ready}
use mathlib.Core.Path.{sym}
use lib.Seq.{length-take-le}
use Rattle.tile.proofs.Fields.{name_in}
use Rattle.tile.proofs.Adding.{tile_state, layer_state, ready, feature_open, extents_differ, name_there, then_append}
use borrow.Author.Rules.{rules}
use Rattle.tile.proofs.Tile.add_layer.Goals as goal
use Rattle.tile.proofs.Tile.add_layer.Tie as tie
use Rattle.tile.proofs.Tile.add_layer.Reads as contract
use Rattle.tile.proofs.Tile.add_layer.Lts as places

-- the places on the way that the lemmas below speak of
abbrev Else-not-is_valid-2 : Type 0
Else-not-is_valid-2 = places.Else2 tie.the-claims contract.Pre contract.Post

-- the two checks of STATE have passed
may : (c : Else-not-is_valid-2) → Ready c.args.self (seen c.args.s (mem c.args.keys.now c.args.values.now c.args.texts.now c.args.features.now)) (lists c.args.names.now c.args.bytes.now)
may c = ready _ _ _ _ _ _ _ _ _ c.is_valid.ensures c.if-not-is_valid.false-raw _ c.is_valid-2.ensures c.if-not-is_valid-2.false-raw

pub returns-then-not-is_valid : goal.returns-then-not-is_valid
returns-then-not-is_valid c = search (rules, tile_state)

pub returns-then-not-is_valid-2 : goal.returns-then-not-is_valid-2
returns-then-not-is_valid-2 c = search (rules, layer_state)

pub returns-then-not-is_shut : goal.returns-then-not-is_shut
returns-then-not-is_shut c = search (rules, feature_open)

pub returns-then-s-self : goal.returns-then-s-self
returns-then-s-self c = search (rules, extents_differ)

pub slice_bounds-has_name-end : goal.slice_bounds-has_name-end
slice_bounds-has_name-end c = sym (length-take-le _ _ (name_in _ _ _ _ _ (may c.before.before.before.before.before.before).layer))

pub has_name-requires : goal.has_name-requires
has_name-requires c =
    (may c.before.before.before.before.before.before).tile

pub returns-then-has_name : goal.returns-then-has_name
returns-then-has_name c = search (rules, name_there)

pub append-requires : goal.append-requires
append-requires c =
    may c.before.before.before.before.before.before.before.before.before.before

pub returns : goal.returns
returns c = search (rules, then_append)
