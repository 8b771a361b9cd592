-- What is left of the pairs answers as all of them do; each turn leaves one less.
use Rattle.decoder.proofs.Running.{Running}
use Rattle.decoder.proofs.passes.over.Given as goal

abbrev pub invariant-loop-pen : goal.invariant-loop-pen
invariant-loop-pen l = Running l.initial.pen l.words l.pen

abbrev pub decreases-loop-pen : goal.decreases-loop-pen
decreases-loop-pen l = l.pen.left
