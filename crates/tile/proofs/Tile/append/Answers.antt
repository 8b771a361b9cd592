-- `Fitted` holds wherever both rooms have been asked: every sum fits, and what is written is what the definition lays.
use Prim.Native.Nat.{◌+◌}
use native.Mathlib.Omega.{arith}
use Rattle.wire.specs.declared.field.Field.TheVariants.{TileLayer}
use Rattle.promise.proofs.Parts.{lent_long}
use Rattle.wire.proofs.Fields.{varint_field_short}
use Rattle.layer.specs.Held.{Memory, mem, seen}
use lib.ListN.{length}
use Rattle.tile.specs.Layers.{layer_field}
use Rattle.tile.proofs.Layers.{held_short, field_long, name_place}
use Rattle.tile.proofs.Appending.{bytes_full, names_full, Fitted, fitted, small_start, small_name, layer_added}
use Rattle.tile.proofs.Tile.append.Goals as goal
use Rattle.tile.proofs.Tile.append.Tie as tie
use Rattle.tile.proofs.Tile.append.Reads as contract
use Rattle.tile.proofs.Tile.append.Lts as places

-- the places on the way that the lemmas below speak of
abbrev Start : Type 0
Start = places.Start tie.the-claims contract.Pre contract.Post

abbrev After-varint_field_size : Type 0
After-varint_field_size = places.After-varint_field_size2 tie.the-claims contract.Pre contract.Post

abbrev lists : Start → Memory
lists s = mem s.args.keys.now s.args.values.now s.args.texts.now s.args.features.now

fit : (c : After-varint_field_size) → Fitted c.args.self (seen c.args.s (lists c.before.before.before.before.before.before.before.before.before.before.before.before.before.before.before)) c.args.names.now c.args.bytes.now (c.varint_field_size-lead.result + c.held_size-size.result) (c.varint_field_size-lead.result + c.varint_field_size.result)
fit c =
    let v = seen c.args.s (lists c.before.before.before.before.before.before.before.before.before.before.before.before.before.before.before) in
    fitted _ _ _ _ _ _ _ _ c.requires _ (field_long v _ _ c.held_size-size.ensures c.varint_field_size-lead.ensures) _ c.byte_room.ensures _ c.has_room.ensures c.if-not-has_room.false-raw _ c.name_room.ensures _ c.has_room-2.ensures c.if-not-has_room-2.false-raw _ (name_place v _ _ c.held_size-size.ensures c.varint_field_size-lead.ensures _ c.varint_field_size.ensures)

pub held_size-size-requires : goal.held_size-size-requires
held_size-size-requires c =
    c.requires.layer

pub overflow_add-grown : goal.overflow_add-grown
overflow_add-grown c =
    omega (arith, c.held_size-size.ensures, c.varint_field_size-lead.ensures, varint_field_short TileLayer c.held_size-size.result, held_short c.args.s (lists c.before.before.before.before.before.before.before.before.before) c.requires.layer)

pub returns-then-not-has_room : goal.returns-then-not-has_room
returns-then-not-has_room c =
    bytes_full _ _ _ _ _ _ _ _ c.requires _ (field_long (seen c.args.s (lists c.before.before.before.before.before.before.before.before.before.before.before.before)) _ _ c.held_size-size.ensures c.varint_field_size-lead.ensures) _ c.byte_room.ensures _ c.has_room.ensures c.if-not-has_room.true-raw

pub returns-then-not-has_room-2 : goal.returns-then-not-has_room-2
returns-then-not-has_room-2 c =
    names_full _ _ _ _ _ _ _ _ c.requires _ (field_long (seen c.args.s (lists c.before.before.before.before.before.before.before.before.before.before.before.before.before.before.before)) _ _ c.held_size-size.ensures c.varint_field_size-lead.ensures) _ c.byte_room.ensures _ c.has_room.ensures c.if-not-has_room.false-raw _ c.name_room.ensures _ c.has_room-2.ensures c.if-not-has_room-2.true-raw

pub overflow_add-place : goal.overflow_add-place
overflow_add-place c = record { fits = omega (arith, (fit c.before).few_bytes, (fit c.before).name_few) }

pub overflow_add-start : goal.overflow_add-start
overflow_add-start c = record { fits = omega (arith, small_start _ _ _ _ _ _ (fit c.before)) }

pub overflow_cast-name : goal.overflow_cast-name
overflow_cast-name c = record { fits = omega (arith, small_start _ _ _ _ _ _ (fit c.before)) }

pub overflow_cast-name-2 : goal.overflow_cast-name-2
overflow_cast-name-2 c =
    record { fits = omega (arith, small_name _ _ _ _ _ _ (fit c.before.before)) }

pub overflow_mul-layers : goal.overflow_mul-layers
overflow_mul-layers c =
    record { fits = omega (arith, (fit c.before.before.before.before).in_names, c.well_formed) }

pub slice_bounds-put_layer-count : goal.slice_bounds-put_layer-count
slice_bounds-put_layer-count c =
    omega (arith, (fit c.before.before.before.before.before.before.before).in_bytes)

pub slice_bounds-put_layer-start : goal.slice_bounds-put_layer-start
slice_bounds-put_layer-start c =
    omega (arith, (fit c.before.before.before.before.before.before.before).in_bytes)

pub put_layer-requires : goal.put_layer-requires
put_layer-requires c =
    record { layer = c.requires.layer; size = c.held_size-size.ensures; room = lent_long c.args.self.used (length (layer_field (seen c.args.s (lists c.before.before.before.before.before.before.before.before.before.before.before.before.before.before.before.before.before.before.before.before.before.before.before)))) c.args.bytes.now (omega (arith, (fit c.before.before.before.before.before.before.before.before).in_bytes, (fit c.before.before.before.before.before.before.before.before).size_is)) }

pub overflow_add-result : goal.overflow_add-result
overflow_add-result c =
    record { fits = omega (arith, (fit c.before.before.before.before.before.before.before.before.before.before.before).few_bytes) }

pub overflow_add-result-2 : goal.overflow_add-result-2
overflow_add-result-2 c =
    record { fits = omega (arith, (fit c.before.before.before.before.before.before.before.before.before.before.before).in_names) }

pub returns : goal.returns
returns c =
    layer_added _ _ _ _ _ _ (fit c.before.before.before.before.before.before.before.before.before.before.before) _ c.lay.ensures _ _ c.put_layer.ensures
