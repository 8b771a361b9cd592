-- What the layer's fields say is what the head says with the fields behind.
use Prim.Native.Nat.{◌-◌}
use lib.ListN.{length}
use Rattle.reader.proofs.Heading.{Heading}
use Rattle.reader.proofs.layers.layer_in.Given as goal

abbrev pub invariant-loop-at : goal.invariant-loop-at
invariant-loop-at l = Heading l.src l.initial.at l.initial.h l.at l.h

abbrev pub decreases-loop-at : goal.decreases-loop-at
decreases-loop-at l = length l.src - l.at
