-- The used parts are there; the message follows its length.
use mathlib.Core.Path.{sym}
use native.Mathlib.Omega.{arith}
use lib.Seq.{length-take-le}
use Rattle.wire.specs.declared.field.Field.TheVariants.{TileLayer}
use Rattle.promise.proofs.Fronts.{put_as}
use Rattle.wire.proofs.Nested.{nested_inside, nested_room, nested_sum, nested_done}
use Rattle.layer.specs.Held.{Memory, mem, held_by, seen}
use Rattle.tile.specs.Layers.{layer_bytes}
use Rattle.tile.proofs.Layers.{field_parts, fit_seen, sound_seen}
use Rattle.tile.proofs.layer_message.put_layer.Goals as goal
use Rattle.tile.proofs.layer_message.put_layer.Tie as tie
use Rattle.tile.proofs.layer_message.put_layer.Reads as contract
use Rattle.tile.proofs.layer_message.put_layer.Lts as places

-- the places on the way that the lemmas below speak of
abbrev Start : Type 0
Start = places.Start tie.the-claims contract.Pre contract.Post

abbrev lists : Start → Memory
lists s = mem s.args.keys.now s.args.values.now s.args.texts.now s.args.features.now

pub overflow_mul-k : goal.overflow_mul-k
overflow_mul-k c =
    record { fits = omega (arith, fit_seen c.args.s (lists c.before.before.before.before.before.before.before.before) c.requires.layer) }

pub overflow_mul-v : goal.overflow_mul-v
overflow_mul-v c =
    record { fits = omega (arith, fit_seen c.args.s (lists c.before.before.before.before.before.before.before.before.before) c.requires.layer) }

pub slice_bounds-put_message-end : goal.slice_bounds-put_message-end
slice_bounds-put_message-end c =
    sym (length-take-le _ _ (fit_seen c.args.s (lists c.before.before.before.before.before.before.before.before.before.before.before.before.before) c.requires.layer).in_keys)

pub slice_bounds-put_message-end-2 : goal.slice_bounds-put_message-end-2
slice_bounds-put_message-end-2 c =
    sym (length-take-le _ _ (fit_seen c.args.s (lists c.before.before.before.before.before.before.before.before.before.before.before.before.before) c.requires.layer).in_values)

pub slice_bounds-put_message-end-3 : goal.slice_bounds-put_message-end-3
slice_bounds-put_message-end-3 c =
    sym (length-take-le _ _ (fit_seen c.args.s (lists c.before.before.before.before.before.before.before.before.before.before.before.before.before) c.requires.layer).in_texts)

pub slice_bounds-put_message-end-4 : goal.slice_bounds-put_message-end-4
slice_bounds-put_message-end-4 c =
    sym (length-take-le _ _ (fit_seen c.args.s (lists c.before.before.before.before.before.before.before.before.before.before.before.before.before) c.requires.layer).in_features)

pub slice_bounds-put_message-count : goal.slice_bounds-put_message-count
slice_bounds-put_message-count c =
    nested_inside TileLayer (layer_bytes c.args.s (held_by c.args.s.used (lists c.before.before.before.before.before.before.before.before.before.before.before.before.before))) _ c.requires.size c.args.out.now (rw (field_parts (seen c.args.s (lists c.before.before.before.before.before.before.before.before.before.before.before.before.before))) at c.requires.room) c.put_varint_field-at.ensures

pub slice_bounds-put_message-start : goal.slice_bounds-put_message-start
slice_bounds-put_message-start c =
    nested_inside TileLayer (layer_bytes c.args.s (held_by c.args.s.used (lists c.before.before.before.before.before.before.before.before.before.before.before.before.before))) _ c.requires.size c.args.out.now (rw (field_parts (seen c.args.s (lists c.before.before.before.before.before.before.before.before.before.before.before.before.before))) at c.requires.room) c.put_varint_field-at.ensures

pub put_message-count-requires : goal.put_message-count-requires
put_message-count-requires c =
    record { good = sound_seen c.args.s (lists c.before.before.before.before.before.before.before.before.before.before.before.before.before.before) c.requires.layer; room = nested_room TileLayer (layer_bytes c.args.s (held_by c.args.s.used (lists c.before.before.before.before.before.before.before.before.before.before.before.before.before.before))) _ c.requires.size c.args.out.now (rw (field_parts (seen c.args.s (lists c.before.before.before.before.before.before.before.before.before.before.before.before.before.before))) at c.requires.room) c.put_varint_field-at.ensures }

pub overflow_add-result : goal.overflow_add-result
overflow_add-result c =
    omega (arith, nested_sum TileLayer (layer_bytes c.args.s (held_by c.args.s.used (lists c.before.before.before.before.before.before.before.before.before.before.before.before.before.before.before.before.before))) _ c.requires.size c.args.out.now (rw (field_parts (seen c.args.s (lists c.before.before.before.before.before.before.before.before.before.before.before.before.before.before.before.before.before))) at c.requires.room) c.put_varint_field-at.ensures c.put_message-count.ensures, c.well_formed)

pub returns : goal.returns
returns c =
    put_as _ (field_parts (seen c.args.s (lists c.before.before.before.before.before.before.before.before.before.before.before.before.before.before.before.before.before))) (nested_done TileLayer (layer_bytes c.args.s (held_by c.args.s.used (lists c.before.before.before.before.before.before.before.before.before.before.before.before.before.before.before.before.before))) _ c.requires.size c.args.out.now (rw (field_parts (seen c.args.s (lists c.before.before.before.before.before.before.before.before.before.before.before.before.before.before.before.before.before))) at c.requires.room) c.put_varint_field-at.ensures c.put_message-count.ensures)
