-- What is left of the part, from the state and the list that there are, gives the rest of the answer, after each block; then completing.
use mathlib.Core.Path.{◌≡◌}
use Prim.Native.Nat.{◌-◌}
use lib.ListN.{length}
use Rattle.encoder.proofs.Turns.{Adding}
use Rattle.affine.specs.Mapping.{grids_of}
use Rattle.survey_job.proofs.add_part.Given as goal

abbrev pub invariant-loop-i : goal.invariant-loop-i
invariant-loop-i l = Adding (grids_of l.map l.points) l.from l.to l.initial.words l.initial.q l.words l.q l.i × (length l.block ≡ length l.initial.block)

abbrev pub decreases-loop-i : goal.decreases-loop-i
decreases-loop-i l = l.to - l.i
