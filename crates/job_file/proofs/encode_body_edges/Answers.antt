-- The points are laid, and their list's front is what the job is given.
use native.Mathlib.Omega.{arith}
use mathlib.Core.Path.{sym}
use lib.Seq.{length-take-le}
use Rattle.edge_job.specs.EdgeJobs.{lists}
use Rattle.job_file.proofs.Taking.{edges_body}
use Rattle.job_file.proofs.encode_body_edges.Goals as goal

pub slice_bounds-encode-end-2 : goal.slice_bounds-encode-end-2
slice_bounds-encode-end-2 c = sym (length-take-le _ _ (omega arith))

pub returns : goal.returns
returns c =
    edges_body c.args.file.now c.args.points.now c.args.body c.requires.body_in_bounds c.requires.file_in_bounds (lists c.args.words.now c.args.edges.now) _ c.lay_signed.ensures _ c.box_of.ensures _ _ c.encode.ensures
