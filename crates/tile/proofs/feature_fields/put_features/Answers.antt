use native.Mathlib.Omega.{arith}
use Prim.Native.Nat.{◌-◌}
use Rattle.tile.proofs.Looping.{laying_start, laying_entry, laying_within, laying_inside, laying_long, laying_sum, laying_turn, laying_end}
use Rattle.tile.proofs.feature_fields.put_features.Goals as goal

pub loop-i-init : goal.loop-i-init
loop-i-init c = laying_start (record { good = record { met = 0; found = c.requires.good }; room = c.requires.room })

pub slice_bounds-put_field-count-in-loop-i : goal.slice_bounds-put_field-count-in-loop-i
slice_bounds-put_field-count-in-loop-i c = laying_inside c.loop-i.invariant

pub slice_bounds-put_field-start-in-loop-i : goal.slice_bounds-put_field-start-in-loop-i
slice_bounds-put_field-start-in-loop-i c = laying_inside c.loop-i.invariant

pub put_field-count-requires : goal.put_field-count-requires
put_field-count-requires c = laying_entry c.loop-i.invariant c.loop-i-test.true

pub record_size-words-requires : goal.record_size-words-requires
record_size-words-requires c = (laying_entry c.loop-i.invariant c.loop-i-test.true).good

pub overflow_add-at : goal.overflow_add-at
overflow_add-at c = omega (arith, laying_sum c.loop-i.invariant c.loop-i-test.true c.put_field-count.ensures, c.well_formed)

pub overflow_add-i : goal.overflow_add-i
overflow_add-i c = omega (arith, c.record_size-words.ensures, laying_within c.loop-i.invariant c.loop-i-test.true, c.well_formed)

pub loop-i-smaller : goal.loop-i-smaller
loop-i-smaller c = omega (arith, c.record_size-words.ensures, laying_within c.loop-i.invariant c.loop-i-test.true)

pub loop-i-preserved : goal.loop-i-preserved
loop-i-preserved c = rw c.record_size-words.ensures (laying_turn c.loop-i.invariant c.loop-i-test.true c.put_field-count.ensures)

pub shape_of-out : goal.shape_of-out
shape_of-out c = laying_long c.loop-i.invariant

pub returns : goal.returns
returns c = laying_end c.loop-i.invariant c.loop-i-test.false
