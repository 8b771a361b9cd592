-- What is left of the parts, from the state and the list that there are, gives the rest of the answer: as of the ordinary job, on the grid points.
use mathlib.Core.Path.{◌≡◌}
use lib.ListN.{length}
use Rattle.encoder.proofs.Turns.{Going}
use Rattle.affine.specs.Mapping.{grids_of}
use Rattle.survey_job.proofs.add_parts.Given as goal

abbrev pub invariant-loop-end : goal.invariant-loop-end
invariant-loop-end l = Going (grids_of l.map l.points) l.ends l.initial.words l.initial.q l.words l.q l.from l.end-index × (length l.block ≡ length l.initial.block)
