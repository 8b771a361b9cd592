use Rattle.std.proofs.lemmas.Result.{err_from_is_err_and}
use native.Mathlib.Omega.{arith}
use mathlib.Core.Path.{refl}
use Prim.Native.Nat.{◌-◌}
use Rattle.encoder.proofs.Turns.{parts_start, parts_all, part_asked, parts_turn, parts_stop}
use Rattle.affine.proofs.Lists.{length_grids}
use Rattle.survey_job.proofs.add_parts.Goals as goal

pub loop-end-init : goal.loop-end-init
loop-end-init c =
    (parts_start _ _ _ _ (rw (length_grids c.args.map c.args.points.now) c.requires.points_value) c.requires.sound, refl)

pub add_part-requires : goal.add_part-requires
add_part-requires c =
    let h = part_asked _ _ _ _ _ _ _ _ c.loop-end.invariant.0 c.loop-end-test.true in record { from_le_to = h.0; to_in_bounds = omega (arith, h.1.0, length_grids c.args.map c.args.points.now); in_bounds = omega (arith, c.loop-end.invariant.1, c.requires.in_bounds); sound = h.1.1 }

pub shape_of-block-in_err-q : goal.shape_of-block-in_err-q
shape_of-block-in_err-q c = omega (arith, c.add_part.auto, c.loop-end.invariant.1)

pub shape_of-words-in_err-q : goal.shape_of-words-in_err-q
shape_of-words-in_err-q c = omega (arith, c.add_part.auto, c.loop-end.invariant.0.long)

pub returns-in_err-q : goal.returns-in_err-q
returns-in_err-q c =
    let p = err_from_is_err_and c.from_residual.result c.from_residual.ensures.1 in
    rw (p.1, p.2) (parts_stop _ _ _ _ _ _ _ _ c.loop-end.invariant.0 c.loop-end-test.true c.add_part.result _ c.add_part.ensures _ c.in_err-q.was)

pub loop-end-preserved : goal.loop-end-preserved
loop-end-preserved c = (
  parts_turn _ _ _ _ _ _ _ _ c.loop-end.invariant.0 c.loop-end-test.true c.add_part.result _ c.add_part.ensures _ c.in_ok-q.was (omega (arith, c.add_part.auto)),
  omega (arith, c.add_part.auto, c.loop-end.invariant.1),
)

pub returns : goal.returns
returns c = parts_all _ _ _ _ _ _ _ _ c.loop-end.invariant.0 (omega (arith, c.loop-end-test.false))
