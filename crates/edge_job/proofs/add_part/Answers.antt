use Rattle.edge_job.proofs.Turns.{add_start, add_turn, add_stop, part_done, part_stop}
use borrow.Author.Rules.{rules}
use Rattle.edge_job.proofs.add_part.Goals as goal

pub loop-i-init : goal.loop-i-init
loop-i-init c = search (rules, add_start)

pub returns-in-Err : goal.returns-in-Err
returns-in-Err c =
    add_stop _ _ _ _ _ _ _ _ c.loop-i.invariant c.loop-i-test.true c.requires.to_in_bounds c.add_point.result _ c.x-1.given c.y-1.given c.add_point.ensures _ c.in-Err.is

pub loop-i-preserved : goal.loop-i-preserved
loop-i-preserved c =
    add_turn _ _ _ _ _ _ _ _ c.loop-i.invariant c.loop-i-test.true c.requires.to_in_bounds c.add_point.result _ c.x-1.given c.y-1.given c.add_point.ensures _ _ c.in-Ok.is (search rules) (search rules)

pub returns-in-Ok-complete_geom : goal.returns-in-Ok-complete_geom
returns-in-Ok-complete_geom c =
    part_done _ _ _ _ _ _ _ _ c.loop-i.invariant c.loop-i-test.false c.complete_geom.result _ c.complete_geom.ensures.answer _ _ c.in-Ok-complete_geom.is

pub returns-in-Err-complete_geom : goal.returns-in-Err-complete_geom
returns-in-Err-complete_geom c =
    part_stop _ _ _ _ _ _ _ _ c.loop-i.invariant c.loop-i-test.false c.complete_geom.result _ c.complete_geom.ensures.answer _ c.in-Err-complete_geom.is
