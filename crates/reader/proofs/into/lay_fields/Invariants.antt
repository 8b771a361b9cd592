-- What the fields from `at` on hold is left to be laid, and there is room for it.
use Prim.Native.Nat.{◌-◌}
use lib.ListN.{length}
use Rattle.reader.proofs.WordsLaid.{Fields}
use Rattle.reader.proofs.into.lay_fields.Given as goal

abbrev pub invariant-loop-at : goal.invariant-loop-at
invariant-loop-at l = Fields l.packed l.single l.src l.start l.initial.out l.out l.at l.n

abbrev pub decreases-loop-at : goal.decreases-loop-at
decreases-loop-at l = length l.src - l.at
