use native.Mathlib.Omega.{arith}
use mathlib.Core.Path.{refl, sym}
use Prim.Native.Nat.{◌-◌, ◌≤◌}
use lib.ListN.{length}
use lib.Seq.{length-take-le}
use Rattle.encoder.proofs.Turns.{add_start, part_done, part_stop}
use Rattle.survey_job.proofs.Blocks.{some, most, block_on, block_off, off_within}
use Rattle.survey_job.proofs.add_part.Goals as goal

pub loop-i-init : goal.loop-i-init
loop-i-init c = (add_start _ _ _ _ _ c.requires.from_le_to c.requires.sound, refl)

pub overflow_mul-n : goal.overflow_mul-n
overflow_mul-n c =
    let h = most _ _ _ _ c.loop-i-test.true c.requires.to_in_bounds _ (omega (arith, c.loop-i.invariant.1, c.requires.in_bounds)) _ _ c.map_points-n.ensures in
    record { fits = omega (arith, h.0, c.requires.to_in_bounds, c.before.before.before.before.before.before.before.before.before) }

-- the run is a part of the block's list
pub slice_bounds-add_points-end : goal.slice_bounds-add_points-end
slice_bounds-add_points-end c =
    let h = most _ _ _ _ c.loop-i-test.true c.requires.to_in_bounds _ (omega (arith, c.loop-i.invariant.1, c.requires.in_bounds)) _ _ c.map_points-n.ensures in
    omega (arith, h.1, c.map_points-n.auto)

pub slice_bounds-add_points-end-in-loop-i : goal.slice_bounds-add_points-end-in-loop-i
slice_bounds-add_points-end-in-loop-i c =
    let h = most _ _ _ _ c.loop-i-test.true c.requires.to_in_bounds _ (omega (arith, c.loop-i.invariant.1, c.requires.in_bounds)) _ _ c.map_points-n.ensures in
    sym (length-take-le _ _ (omega (arith, h.1, c.map_points-n.auto)))

pub overflow_add-result : goal.overflow_add-result
overflow_add-result c =
    let h = off_within _ _ _ _ c.loop-i-test.true c.requires.to_in_bounds _ (omega (arith, c.loop-i.invariant.1, c.requires.in_bounds)) _ _ c.map_points-n.ensures _ _ _ _ _ c.loop-i.invariant.0 c.add_points.result _ c.add_points.ensures _ c.in-Err.is in
    record { fits = omega (arith, h, c.ranges.to.fits) }

pub shape_of-block-in-Err : goal.shape_of-block-in-Err
shape_of-block-in-Err c =
    omega (arith, c.map_points-n.auto, c.loop-i.invariant.1)

pub shape_of-words-in-Err : goal.shape_of-words-in-Err
shape_of-words-in-Err c =
    omega (arith, c.add_points.auto, c.loop-i.invariant.0.long)

pub returns-in-Err : goal.returns-in-Err
returns-in-Err c =
    block_off _ _ _ _ c.loop-i-test.true c.requires.to_in_bounds _ (omega (arith, c.loop-i.invariant.1, c.requires.in_bounds)) _ _ c.map_points-n.ensures _ _ _ _ _ c.loop-i.invariant.0 c.add_points.result _ c.add_points.ensures _ c.in-Err.is

pub overflow_add-i : goal.overflow_add-i
overflow_add-i c =
    let h = most _ _ _ _ c.loop-i-test.true c.requires.to_in_bounds _ (omega (arith, c.loop-i.invariant.1, c.requires.in_bounds)) _ _ c.map_points-n.ensures in
    record { fits = omega (arith, h.0, c.loop-i-test.true, c.ranges.to.fits) }

pub loop-i-smaller : goal.loop-i-smaller
loop-i-smaller c =
    let h = some _ _ _ _ c.loop-i-test.true c.requires.to_in_bounds _ (omega (arith, c.loop-i.invariant.1, c.requires.in_bounds)) _ _ c.map_points-n.ensures in
    omega (arith, h, c.loop-i-test.true)

pub loop-i-preserved : goal.loop-i-preserved
loop-i-preserved c = (
  block_on _ _ _ _ c.loop-i-test.true c.requires.to_in_bounds _ (omega (arith, c.loop-i.invariant.1, c.requires.in_bounds)) _ _ c.map_points-n.ensures _ _ _ _ _ c.loop-i.invariant.0 c.add_points.result _ c.add_points.ensures _ c.in-Ok.is (omega (arith, c.add_points.auto)),
  omega (arith, c.map_points-n.auto, c.loop-i.invariant.1),
)

pub returns-in-Ok-complete_geom : goal.returns-in-Ok-complete_geom
returns-in-Ok-complete_geom c =
    part_done _ _ _ _ _ _ _ _ c.loop-i.invariant.0 (omega (arith, c.loop-i-test.false)) c.complete_geom.result _ c.complete_geom.ensures.answer _ _ c.in-Ok-complete_geom.is

pub returns-in-Err-complete_geom : goal.returns-in-Err-complete_geom
returns-in-Err-complete_geom c =
    part_stop _ _ _ _ _ _ _ _ c.loop-i.invariant.0 (omega (arith, c.loop-i-test.false)) c.complete_geom.result _ c.complete_geom.ensures.answer _ c.in-Err-complete_geom.is
