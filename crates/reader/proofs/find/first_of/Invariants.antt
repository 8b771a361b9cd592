-- What is found from the first place on is what is found from where the loop stands.
use Prim.Native.Nat.{◌-◌}
use mathlib.Core.Path.{◌≡◌}
use lib.ListN.{length}
use Rattle.reader.specs.Finding.{first_of}
use Rattle.reader.proofs.find.first_of.Given as goal

abbrev pub invariant-loop-at : goal.invariant-loop-at
invariant-loop-at l = first_of l.kind l.key l.start l.src ≡ first_of l.kind l.key l.at l.src

abbrev pub decreases-loop-at : goal.decreases-loop-at
decreases-loop-at l = length l.src - l.at
