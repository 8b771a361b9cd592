use native.Mathlib.Omega.{arith}
use Rattle.wire.proofs.Packing.{packing_start, packing_inside, packing_long, packing_sum, packing_turn, packing_end}
use borrow.Author.Rules.{rules}
use Rattle.wire.proofs.packed.lay_varints.Goals as goal

pub loop-word-init : goal.loop-word-init
loop-word-init c = packing_start _ _ c.requires

pub slice_bounds-put_varint-count : goal.slice_bounds-put_varint-count
slice_bounds-put_varint-count c = search (rules, packing_inside)

pub slice_bounds-put_varint-start : goal.slice_bounds-put_varint-start
slice_bounds-put_varint-start c = search (rules, packing_inside)

pub overflow_add-at : goal.overflow_add-at
overflow_add-at c =
    omega (arith, packing_sum _ _ _ _ _ c.loop-word.invariant (search rules) _ (search rules) _ _ c.put_varint-count.ensures)

pub loop-word-preserved : goal.loop-word-preserved
loop-word-preserved c = search (rules, packing_turn)

pub shape_of-out : goal.shape_of-out
shape_of-out c = search (rules, packing_long)

pub returns : goal.returns
returns c = search (rules, packing_end)
