-- The run of the part's points gives the first calls, completing the last one.
use native.Mathlib.Omega.{arith}
use Rattle.encoder.proofs.Reached.{valid_is}
use Rattle.encoder.proofs.Turns.{part_done, part_stop}
use Rattle.encoder.proofs.Runs.{whole_part_on, whole_part_off}
use Rattle.std.proofs.lemmas.Result.{err_from_is_err_and}
use Rattle.encoder.proofs.whole_job.add_part.Goals as goal

pub returns-in_err-q : goal.returns-in_err-q
returns-in_err-q c =
    let p = err_from_is_err_and c.from_residual.result c.from_residual.ensures.1 in
    rw (p.1, p.2) (whole_part_off c.args.points.now _ _ c.requires.from_le_to _ _ c.requires.sound c.add_run.result _ c.add_run.ensures _ c.in_err-q.was)

pub complete_valid-requires : goal.complete_valid-requires
complete_valid-requires c =
    let ready = whole_part_on _ _ _ c.requires.from_le_to _ _ c.requires.sound c.add_run.result _ c.add_run.ensures _ c.in_ok-q.was (omega (arith, c.add_run.auto)) in
    valid_is _ _ ready.sound.valid

pub returns-in-Ok : goal.returns-in-Ok
returns-in-Ok c =
    let on = whole_part_on _ _ _ c.requires.from_le_to _ _ c.requires.sound c.add_run.result _ c.add_run.ensures _ c.in_ok-q.was (omega (arith, c.add_run.auto)) in
    part_done _ _ _ _ _ _ _ _ on (omega arith) c.complete_valid.result _ c.complete_valid.ensures.answer _ _ c.in-Ok.is

pub returns-in-Err : goal.returns-in-Err
returns-in-Err c =
    let off = whole_part_on _ _ _ c.requires.from_le_to _ _ c.requires.sound c.add_run.result _ c.add_run.ensures _ c.in_ok-q.was (omega (arith, c.add_run.auto)) in
    part_stop _ _ _ _ _ _ _ _ off (omega arith) c.complete_valid.result _ c.complete_valid.ensures.answer _ c.in-Err.is
