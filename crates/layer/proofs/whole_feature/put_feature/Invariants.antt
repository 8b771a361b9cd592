-- The record has room and is laid. The loop's invariant: what is seen, with the tags still to come, is what all of them leave, and no check could refuse one.
-- What they leave, shut, is the feature.
use Prim.Native.Nat.{◌-◌}
use lib.ListN.{length}
use Rattle.layer.specs.Held.{mem}
use Rattle.layer.specs.Lookup.{idx}
use Rattle.layer.proofs.Filled.{Inv}
use Rattle.layer.proofs.whole_feature.put_feature.Given as goal

abbrev pub invariant-loop-i : goal.invariant-loop-i
invariant-loop-i l =
    Inv l.initial.t l.o l.tags l.bytes (mem l.initial.keys l.initial.values l.initial.texts l.initial.features) (idx l.initial.ki l.initial.vi) l.i l.t (mem l.keys l.values l.texts l.features) (idx l.ki l.vi)

abbrev pub decreases-loop-i : goal.decreases-loop-i
decreases-loop-i l = length l.tags - l.i
