-- Each entry is the piece of the list that stands at its index.
use native.Mathlib.Omega.{arith}
use Rattle.tile.proofs.Looping.{sizing_entry, sizing_sum, sizing_turn, sizing_end}
use Rattle.tile.proofs.key_fields.keys_size.Goals as goal

pub field_size-more-requires : goal.field_size-more-requires
field_size-more-requires c = rw c.as_chunks.ensures.front (sizing_entry c.loop-e.invariant (omega (arith, c.as_chunks.ensures.front_len)))

pub overflow_add-size : goal.overflow_add-size
overflow_add-size c = omega (arith, sizing_sum c.loop-e.invariant (omega (arith, c.as_chunks.ensures.front_len)) (rw c.as_chunks.ensures.front at c.field_size-more.ensures), c.requires.room)

pub loop-e-preserved : goal.loop-e-preserved
loop-e-preserved c = sizing_turn c.loop-e.invariant (omega (arith, c.as_chunks.ensures.front_len)) (rw c.as_chunks.ensures.front at c.field_size-more.ensures)

pub returns : goal.returns
returns c = sizing_end c.loop-e.invariant (omega (arith, c.as_chunks.ensures.front_len))
