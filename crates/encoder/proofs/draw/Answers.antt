-- The plan is that of the point; ROOM, or everything that it says.
use mathlib.Core.Path.{refl, ◌∙◌}
use Rattle.encoder.proofs.Plans.{edges_drafted, brought_asked, take_asked, stands_alone, plan_asked, draw_uncounted, draw_room, write_asked, end_asked, draw_done}
use Rattle.encoder.proofs.Tallies.{Counts}
use Rattle.encoder.proofs.Bounds.{brought_ends, none_named, none_moved}
use Rattle.encoder.proofs.Said.{passed_none, passed_on, passed_nothing}
use Rattle.refusal.specs.declared.Refusal.TheVariants.{Room}
use Rattle.encoder.specs.Answers.{roomy}
use Rattle.encoder.specs.Adding.{drawn}
use borrow.Author.Rules.{rules}
use Rattle.encoder.proofs.draw.Goals as goal

pub add_boundary_points-cut-requires : goal.add_boundary_points-cut-requires
add_boundary_points-cut-requires c = let whole = brought_asked c.args.s _ c.requires.words_value c.args.p c.requires.p_value c.draft_of-d.result c.draft_of-d.ensures in record { bbox_value = whole.0; xy_end_value = whole.1.0; p_value = whole.1.1 }

pub take_point-t-requires : goal.take_point-t-requires
take_point-t-requires c =
    let small : Counts c.args.s.tally = record { taken = search rules; bounds = search rules; skips = search rules; outs = search rules } in
    let whole = take_asked c.args.s _ c.requires.words_value c.args.p c.requires.p_value c.draft_of-d.result c.draft_of-d.ensures small in record { taken_le_max_tally = whole.0; boundary_le_max_tally = whole.1 }

pub draw_alone-requires : goal.draw_alone-requires
draw_alone-requires c =
    let small : Counts c.args.s.tally = record { taken = search rules; bounds = search rules; skips = search rules; outs = search rules } in
    stands_alone c.args.s _ c.requires.words_value c.args.p c.requires.p_value c.draft_of-d.result c.draft_of-d.ensures small c.ends_of-ends.result (brought_ends c.add_boundary_points-cut.ensures _ c.ends_of-ends.ensures) _ c.make_point-q.ensures c.take_point-t.result c.take_point-t.ensures (none_moved c.ends_of-ends.result _ _ c.is_none-stayed0.ensures c.is_none-stayed1.ensures c.if-stayed0-stayed1.true)

pub returns-then-stayed0-stayed1 : goal.returns-then-stayed0-stayed1
returns-then-stayed0-stayed1 c =
    let names = edges_drafted c.args.s _ c.requires.words_value c.args.p c.requires.p_value c.draft_of-d.result c.draft_of-d.ensures _ c.add_boundary_points-cut.ensures.names in
    let g = c.draw_alone.ensures in
    let out = c.args.words.now in record { answer = g.answer; edges = passed_nothing (roomy c.args.s out (drawn c.args.s c.args.p out)).answer _ _ g.edges (none_named _ _ c.ends_of-ends.ensures (none_moved c.ends_of-ends.result _ _ c.is_none-stayed0.ensures c.is_none-stayed1.ensures c.if-stayed0-stayed1.true) _ names) }

pub plan_point-plan-requires : goal.plan_point-plan-requires
plan_point-plan-requires c =
    let small : Counts c.args.s.tally = record { taken = search rules; bounds = search rules; skips = search rules; outs = search rules } in
    let whole = plan_asked c.args.s _ c.requires.words_value c.args.p c.requires.p_value c.draft_of-d.result c.draft_of-d.ensures small c.ends_of-ends.result (brought_ends c.add_boundary_points-cut.ensures _ c.ends_of-ends.ensures) _ c.make_point-q.ensures c.take_point-t.result c.take_point-t.ensures in record { ready = whole.0; few = whole.1.0; near = whole.1.1 }

pub returns-then-not-are_counts : goal.returns-then-not-are_counts
returns-then-not-are_counts c =
    let small : Counts c.args.s.tally = record { taken = search rules; bounds = search rules; skips = search rules; outs = search rules } in
    let g = draw_uncounted c.args.s _ c.requires.words_value c.args.p c.requires.p_value c.draft_of-d.result c.draft_of-d.ensures small c.ends_of-ends.result (brought_ends c.add_boundary_points-cut.ensures _ c.ends_of-ends.ensures) _ c.make_point-q.ensures c.take_point-t.result c.take_point-t.ensures c.plan_point-plan.result c.plan_point-plan.ensures c.args.words.now _ c.are_counts.ensures c.if-not-are_counts.true-raw in record { answer = g; edges = passed_none _ _ Room c.args.s g.answer }

pub returns-then-room-pen : goal.returns-then-room-pen
returns-then-room-pen c =
    let small : Counts c.args.s.tally = record { taken = search rules; bounds = search rules; skips = search rules; outs = search rules } in
    let g = draw_room c.args.s _ c.requires.words_value c.args.p c.requires.p_value c.draft_of-d.result c.draft_of-d.ensures small c.ends_of-ends.result (brought_ends c.add_boundary_points-cut.ensures _ c.ends_of-ends.ensures) _ c.make_point-q.ensures c.take_point-t.result c.take_point-t.ensures c.plan_point-plan.result c.plan_point-plan.ensures c.args.words.now _ c.are_counts.ensures c.if-not-are_counts.false-raw refl _ c.room-room.ensures c.if-room-pen.true in record { answer = g; edges = passed_none _ _ Room c.args.s g.answer }

pub write_plan-requires : goal.write_plan-requires
write_plan-requires c =
    let small : Counts c.args.s.tally = record { taken = search rules; bounds = search rules; skips = search rules; outs = search rules } in
    write_asked c.args.s _ c.requires.words_value c.args.p c.requires.p_value c.draft_of-d.result c.draft_of-d.ensures small c.ends_of-ends.result (brought_ends c.add_boundary_points-cut.ensures _ c.ends_of-ends.ensures) _ c.make_point-q.ensures c.take_point-t.result c.take_point-t.ensures c.plan_point-plan.result c.plan_point-plan.ensures c.args.words.now _ c.are_counts.ensures c.if-not-are_counts.false-raw refl _ c.room-room.ensures c.if-room-pen.false

pub state_of-requires : goal.state_of-requires
state_of-requires c =
    let small : Counts c.args.s.tally = record { taken = search rules; bounds = search rules; skips = search rules; outs = search rules } in
    let whole = end_asked c.args.s _ c.requires.words_value c.args.p c.requires.p_value c.draft_of-d.result c.draft_of-d.ensures small c.ends_of-ends.result (brought_ends c.add_boundary_points-cut.ensures _ c.ends_of-ends.ensures) _ c.make_point-q.ensures c.take_point-t.result c.take_point-t.ensures c.plan_point-plan.result c.plan_point-plan.ensures c.args.words.now _ c.are_counts.ensures c.if-not-are_counts.false-raw refl _ c.room-room.ensures c.if-room-pen.false c.set_end.result c.set_end.ensures in record { count_bound = whole.0; d_value = whole.1 }

pub returns : goal.returns
returns c =
    let small : Counts c.args.s.tally = record { taken = search rules; bounds = search rules; skips = search rules; outs = search rules } in
    let g = draw_done c.args.s _ c.requires.words_value c.args.p c.requires.p_value c.draft_of-d.result c.draft_of-d.ensures small c.ends_of-ends.result (brought_ends c.add_boundary_points-cut.ensures _ c.ends_of-ends.ensures) _ c.make_point-q.ensures c.take_point-t.result c.take_point-t.ensures c.plan_point-plan.result c.plan_point-plan.ensures c.args.words.now _ c.are_counts.ensures c.if-not-are_counts.false-raw refl _ c.room-room.ensures c.if-room-pen.false _ c.write_plan.ensures c.set_end.result c.set_end.ensures _ c.state_of.ensures in record { answer = g; edges = passed_on _ _ _ _ g.answer (edges_drafted c.args.s _ c.requires.words_value c.args.p c.requires.p_value c.draft_of-d.result c.draft_of-d.ensures _ (c.named.ensures ∙ c.add_boundary_points-cut.ensures.names)) }
