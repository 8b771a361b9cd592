-- After each turn the bytes put so far and those of the records to come are those of all.
use Prim.Native.Nat.{◌-◌}
use lib.ListN.{length}
use Rattle.tile.proofs.Looping.{Laying}
use Rattle.tile.proofs.Entries.{feature_walk}
use Rattle.tile.proofs.feature_fields.put_features.Given as goal

abbrev pub invariant-loop-i : goal.invariant-loop-i
invariant-loop-i l = Laying (feature_walk l.features) l.initial.out l.out l.at l.i

abbrev pub decreases-loop-i : goal.decreases-loop-i
decreases-loop-i l = length l.features - l.i
