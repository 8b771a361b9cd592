-- The points are laid, and their list's front is what the job is given.
use native.Mathlib.Omega.{arith}
use mathlib.Core.Path.{sym}
use lib.Seq.{length-take-le}
use Rattle.job_file.proofs.Taking.{finished_body}
use Rattle.job_file.proofs.finish_body.Goals as goal

pub slice_bounds-finish-end-2 : goal.slice_bounds-finish-end-2
slice_bounds-finish-end-2 c = sym (length-take-le _ _ (omega arith))

pub returns : goal.returns
returns c =
    finished_body c.args.file.now c.args.points.now c.args.body c.requires.body_in_bounds c.requires.file_in_bounds c.args.words.now _ c.lay_signed.ensures _ c.box_of.ensures c.finish.result _ c.finish.ensures
