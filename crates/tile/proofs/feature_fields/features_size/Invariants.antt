-- After each turn the size so far and that of the records to come are that of all.
use Prim.Native.Nat.{◌-◌}
use lib.ListN.{length}
use Rattle.tile.proofs.Looping.{Sizing}
use Rattle.tile.proofs.Entries.{feature_walk}
use Rattle.tile.proofs.feature_fields.features_size.Given as goal

abbrev pub invariant-loop-i : goal.invariant-loop-i
invariant-loop-i l = Sizing (feature_walk l.features) l.size l.i

abbrev pub decreases-loop-i : goal.decreases-loop-i
decreases-loop-i l = length l.features - l.i
