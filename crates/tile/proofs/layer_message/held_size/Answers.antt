-- The layer breaks no rule of STATE, so each used part is there, and as its reader asks.
use mathlib.Core.Path.{sym}
use native.Mathlib.Omega.{arith}
use lib.Seq.{length-take-le}
use Rattle.layer.specs.Held.{Memory, mem}
use Rattle.tile.proofs.Layers.{fit_seen, sound_seen}
use Rattle.tile.proofs.layer_message.held_size.Goals as goal
use Rattle.tile.proofs.layer_message.held_size.Tie as tie
use Rattle.tile.proofs.layer_message.held_size.Reads as contract
use Rattle.tile.proofs.layer_message.held_size.Lts as places

-- the places on the way that the lemmas below speak of
abbrev Start : Type 0
Start = places.Start tie.the-claims contract.Pre contract.Post

abbrev lists : Start → Memory
lists s = mem s.args.keys.now s.args.values.now s.args.texts.now s.args.features.now

pub overflow_mul-k : goal.overflow_mul-k
overflow_mul-k c =
    record { fits = omega (arith, fit_seen c.args.s (lists c.before.before.before.before.before.before.before) c.requires) }

pub overflow_mul-v : goal.overflow_mul-v
overflow_mul-v c =
    record { fits = omega (arith, fit_seen c.args.s (lists c.before.before.before.before.before.before.before.before) c.requires) }

pub slice_bounds-message_size-end : goal.slice_bounds-message_size-end
slice_bounds-message_size-end c =
    sym (length-take-le _ _ (fit_seen c.args.s (lists c.before.before.before.before.before.before.before.before) c.requires).in_keys)

pub slice_bounds-message_size-end-2 : goal.slice_bounds-message_size-end-2
slice_bounds-message_size-end-2 c =
    sym (length-take-le _ _ (fit_seen c.args.s (lists c.before.before.before.before.before.before.before.before) c.requires).in_values)

pub slice_bounds-message_size-end-3 : goal.slice_bounds-message_size-end-3
slice_bounds-message_size-end-3 c =
    sym (length-take-le _ _ (fit_seen c.args.s (lists c.before.before.before.before.before.before.before.before) c.requires).in_texts)

pub slice_bounds-message_size-end-4 : goal.slice_bounds-message_size-end-4
slice_bounds-message_size-end-4 c =
    sym (length-take-le _ _ (fit_seen c.args.s (lists c.before.before.before.before.before.before.before.before) c.requires).in_features)

pub message_size-requires : goal.message_size-requires
message_size-requires c =
    sound_seen c.args.s (lists c.before.before.before.before.before.before.before.before) c.requires

pub returns : goal.returns
returns c = c.message_size.ensures
