-- What is left of the list, from the state and the words that there are, gives the rest of the answer.
use mathlib.Core.Path.{◌≡◌}
use Prim.Native.Nat.{◌/◌}
use lib.ListN.{length}
use Rattle.encoder.proofs.Runs.{Each}
use Rattle.encoder.proofs.run.add_each.Given as goal

abbrev pub invariant-loop-i : goal.invariant-loop-i
invariant-loop-i l = (l.i-end ≡ length l.points / 2) × Each l.points l.initial.words l.initial.q l.words l.q l.i
