-- Where there is much room no tag is looked at. Else the loop's invariant: the tags to come make of the figures so far what all make of those given.
use Prim.Native.Nat.{◌*◌}
use Rattle.layer.specs.NeedSteps.{most_of}
use Rattle.layer.proofs.Walking.{Walks}
use Rattle.layer.proofs.need.is_most_met.Given as goal

abbrev pub invariant-loop-t : goal.invariant-loop-t
invariant-loop-t l = Walks most_of l.tags l.initial.u (l.t-index * 5) l.u
