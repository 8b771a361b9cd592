-- STATE of the layer, then the size of its field.
use native.Mathlib.Omega.{arith}
use Rattle.wire.specs.declared.field.Field.TheVariants.{TileLayer}
use Rattle.wire.proofs.Fields.{varint_field_short}
use Rattle.layer.specs.Held.{Memory, mem, seen}
use Rattle.layer.proofs.Standing.{answered}
use Rattle.tile.proofs.Layers.{held_short, field_long}
use Rattle.tile.proofs.Asking.{not_sized, is_sized}
use Rattle.tile.proofs.Tile.layer_size.Goals as goal
use Rattle.tile.proofs.Tile.layer_size.Tie as tie
use Rattle.tile.proofs.Tile.layer_size.Reads as contract
use Rattle.tile.proofs.Tile.layer_size.Lts as places

-- the places on the way that the lemmas below speak of
abbrev Start : Type 0
Start = places.Start tie.the-claims contract.Pre contract.Post

abbrev lists : Start → Memory
lists s = mem s.args.keys.now s.args.values.now s.args.texts.now s.args.features.now

pub returns-then-not-is_valid : goal.returns-then-not-is_valid
returns-then-not-is_valid c =
    not_sized c.args.self (seen c.args.s (lists c.before.before.before.before.before.before.before)) _ c.is_valid.ensures c.if-not-is_valid.true-raw

pub held_size-size-requires : goal.held_size-size-requires
held_size-size-requires c =
    (answered _ _ c.is_valid.ensures c.if-not-is_valid.false-raw)

pub overflow_add-result : goal.overflow_add-result
overflow_add-result c =
    omega (arith, c.held_size-size.ensures, c.varint_field_size.ensures, varint_field_short TileLayer c.held_size-size.result, held_short c.args.s (lists c.before.before.before.before.before.before.before.before.before) (answered _ _ c.is_valid.ensures c.if-not-is_valid.false-raw))

pub returns : goal.returns
returns c =
    is_sized c.args.self (seen c.args.s (lists c.before.before.before.before.before.before.before.before.before)) _ c.is_valid.ensures c.if-not-is_valid.false-raw _ (field_long (seen c.args.s (lists c.before.before.before.before.before.before.before.before.before)) _ _ c.held_size-size.ensures c.varint_field_size.ensures)
