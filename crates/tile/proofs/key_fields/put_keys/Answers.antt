-- Each entry is the piece of the list that stands at its index.
use native.Mathlib.Omega.{arith}
use Rattle.tile.proofs.Looping.{laying_entry, laying_sum, laying_turn, laying_end}
use Rattle.tile.proofs.key_fields.put_keys.Goals as goal

pub put_field-count-requires : goal.put_field-count-requires
put_field-count-requires c = rw c.as_chunks.ensures.front (laying_entry c.loop-e.invariant (omega (arith, c.as_chunks.ensures.front_len)))

pub overflow_add-at : goal.overflow_add-at
overflow_add-at c = omega (arith, laying_sum c.loop-e.invariant (omega (arith, c.as_chunks.ensures.front_len)) (rw c.as_chunks.ensures.front at c.put_field-count.ensures), c.well_formed)

pub loop-e-preserved : goal.loop-e-preserved
loop-e-preserved c = laying_turn c.loop-e.invariant (omega (arith, c.as_chunks.ensures.front_len)) (rw c.as_chunks.ensures.front at c.put_field-count.ensures)

pub returns : goal.returns
returns c = laying_end c.loop-e.invariant (omega (arith, c.as_chunks.ensures.front_len))
