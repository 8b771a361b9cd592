-- The numbers of the vertices so far stand behind the front, and what is left of the pairs gives the others.
use Rattle.decoder.proofs.Running.{Filling}
use Rattle.decoder.proofs.passes.fill.Given as goal

abbrev pub invariant-loop-pen : goal.invariant-loop-pen
invariant-loop-pen l = Filling l.initial.pen l.words l.front l.initial.out l.out l.pen l.n

abbrev pub decreases-loop-pen : goal.decreases-loop-pen
decreases-loop-pen l = l.pen.left
