-- What is left of the list is what is left to be laid, and there is room for it.
use Prim.Native.Nat.{◌-◌}
use lib.ListN.{length}
use Rattle.reader.proofs.Listing.{Listing}
use Rattle.reader.proofs.packed.lay_varints.Given as goal

abbrev pub invariant-loop-i : goal.invariant-loop-i
invariant-loop-i l = Listing l.src l.at l.from l.initial.out l.out l.i l.n

abbrev pub decreases-loop-i : goal.decreases-loop-i
decreases-loop-i l = length l.src - l.i
