use native.Mathlib.Omega.{arith}
use borrow.Author.Rules.{rules}
use Rattle.encoder.proofs.Drawing.{point_is, draw_start, draw_end, plain_asked, draw_stop, draw_asked, draw_turn, few_points, state_asked}
use Rattle.encoder.proofs.stretch.draw_all.Goals as goal

pub loop-i-init : goal.loop-i-init
loop-i-init c = search (rules, draw_start)

pub is_plain-requires : goal.is_plain-requires
is_plain-requires c = let whole = plain_asked _ _ _ _ _ _ _ _ _ _ _ _ _ c.loop-i.invariant _ _ c.is_outside-next.ensures in record { used_le_max_words = whole.0; p_value = whole.1 }

pub overflow_sub-i : goal.overflow_sub-i
overflow_sub-i c = let I = c.loop-i.invariant in omega (arith, I.since)

pub state_with-requires : goal.state_with-requires
state_with-requires c = let whole = state_asked _ _ _ _ _ _ _ _ _ _ _ _ _ c.loop-i.invariant c.requires.counting.fits (few_points c.requires.ongoing) in record { count_le_max_words = whole.0; count_le_max_words_2 = whole.1.0; start_value = whole.1.1.0; points_value = whole.1.1.1.0; points_bound = whole.1.1.1.1 }

pub returns-then-not-is_plain : goal.returns-then-not-is_plain
returns-then-not-is_plain c =
    draw_stop _ _ _ _ _ _ _ _ _ _ _ _ _ c.loop-i.invariant _ _ c.is_outside-next.ensures _ c.is_plain.ensures c.loop-i-test.true
    (point_is c.args.points.now c.loop-i.i c.x-1.given c.y-1.given) c.if-not-is_plain.true-raw _ c.state_with.ensures

pub draw-pen-requires : goal.draw-pen-requires
draw-pen-requires c = let whole = draw_asked _ _ _ _ _ _ _ _ _ _ _ _ _ c.loop-i.invariant _ _ c.is_outside-next.ensures _ c.is_plain.ensures c.if-not-is_plain.false-raw c.loop-i-test.true in record { b_value = whole.0; steady = whole.1.0; p_value = whole.1.1.0; crossing_value = whole.1.1.1 }

pub overflow_add-i : goal.overflow_add-i
overflow_add-i c = omega (arith, c.loop-i-test.true, c.ranges.end.fits)

pub loop-i-preserved : goal.loop-i-preserved
loop-i-preserved c =
    draw_turn _ _ _ _ _ _ _ _ _ _ _ _ _ c.loop-i.invariant _ _ c.is_outside-next.ensures _ c.is_plain.ensures c.loop-i-test.true
    (point_is c.args.points.now c.loop-i.i c.x-1.given c.y-1.given) c.if-not-is_plain.false-raw _ _ c.draw-pen.ensures

pub overflow_sub-i-2 : goal.overflow_sub-i-2
overflow_sub-i-2 c = let I = c.loop-i.invariant in omega (arith, I.since)

pub state_with-requires-2 : goal.state_with-requires-2
state_with-requires-2 c = let whole = state_asked _ _ _ _ _ _ _ _ _ _ _ _ _ c.loop-i.invariant c.requires.counting.fits (few_points c.requires.ongoing) in record { count_le_max_words = whole.0; count_le_max_words_2 = whole.1.0; start_value = whole.1.1.0; points_value = whole.1.1.1.0; points_bound = whole.1.1.1.1 }

pub returns : goal.returns
returns c = search (rules, draw_end)
