use native.Mathlib.Omega.{arith}
use Rattle.wire.proofs.Packing.{sizing_start, sizing_few, sizing_turn, sizing_end}
use borrow.Author.Rules.{rules}
use Rattle.wire.proofs.packed.varints_size.Goals as goal

pub loop-word-init : goal.loop-word-init
loop-word-init c = sizing_start _

pub overflow_add-size : goal.overflow_add-size
overflow_add-size c = omega (arith, sizing_few _ _ _ c.loop-word.invariant (search rules) _ (search rules) _ c.varint_size-size.ensures, c.well_formed.0.1)

pub loop-word-preserved : goal.loop-word-preserved
loop-word-preserved c = sizing_turn _ _ _ c.loop-word.invariant (search rules) _ (search rules) _ c.varint_size-size.ensures

pub returns : goal.returns
returns c = search (rules, sizing_end)
