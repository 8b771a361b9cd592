-- What is left of the run, from the state and the list that there are, gives the rest of the answer, after a stretch and after a point by itself.
use mathlib.Core.Bool.{cond}
use Prim.Native.Nat.{◌+◌, ◌-◌, ◌*◌}
use Rattle.encoder.proofs.Runs.{Running}
use Rattle.encoder.proofs.run.add_run.Given as goal

abbrev pub invariant-loop-i : goal.invariant-loop-i
invariant-loop-i l = Running l.points l.from l.to l.initial.words l.initial.q l.words l.q l.i

-- a stretch may take no point, but is not tried again before one is added by itself
abbrev pub decreases-loop-i : goal.decreases-loop-i
decreases-loop-i l = 2 * (l.to - l.i) + cond l.tried 0 1
