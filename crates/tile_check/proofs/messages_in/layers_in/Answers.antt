use borrow.Author.Rules.{rules}
use Rattle.tile_check.proofs.Rest.{field_less, field_part}
use Rattle.tile_check.proofs.Counting.{counted_start, counted_end, counted_faulty, other_counted, layer_bad, layer_counted}
use Rattle.tile_check.proofs.messages_in.layers_in.Goals as goal

pub loop-at-init : goal.loop-at-init
loop-at-init c = search (rules, counted_start)

pub returns-in_err-f : goal.returns-in_err-f
returns-in_err-f c = search (rules, counted_faulty)

pub slice_bounds-is_message-end : goal.slice_bounds-is_message-end
slice_bounds-is_message-end c = search (rules, field_part)

pub returns-then-not-is_message : goal.returns-then-not-is_message
returns-then-not-is_message c = search (rules, layer_bad)

pub loop-at-smaller-then-f-eq-TILE_LAYER : goal.loop-at-smaller-then-f-eq-TILE_LAYER
loop-at-smaller-then-f-eq-TILE_LAYER c = search (rules, field_less)

pub loop-at-preserved-then-f-eq-TILE_LAYER : goal.loop-at-preserved-then-f-eq-TILE_LAYER
loop-at-preserved-then-f-eq-TILE_LAYER c =
    layer_counted _ _ _ c.loop-at.invariant (search rules) _ c.field_at.ensures _ c.in_ok-f.was (search rules) _ c.is_message.ensures (search rules)

pub loop-at-smaller : goal.loop-at-smaller
loop-at-smaller c = search (rules, field_less)

pub loop-at-preserved : goal.loop-at-preserved
loop-at-preserved c = other_counted _ _ _ c.loop-at.invariant (search rules) _ c.field_at.ensures _ c.in_ok-f.was (search rules)

pub returns : goal.returns
returns c = search (rules, counted_end)
