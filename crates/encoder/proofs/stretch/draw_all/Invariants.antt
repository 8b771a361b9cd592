-- What is left to take, from the state and the list that there are, gives the rest of the answer.
use Prim.Native.Nat.{◌-◌}
use Rattle.encoder.proofs.Drawing.{Drawing}
use Rattle.encoder.proofs.stretch.draw_all.Given as goal

abbrev pub invariant-loop-i : goal.invariant-loop-i
invariant-loop-i l = Drawing l.s l.points l.from l.end l.initial.words l.bbox l.ring l.room l.start l.words l.pen l.out l.i

abbrev pub decreases-loop-i : goal.decreases-loop-i
decreases-loop-i l = l.end - l.i
