-- Where the run has no room nothing is laid; else, after i turns, its first i elements are.
use Rattle.promise.proofs.Copying.{Copied}
use Rattle.runs.proofs.lay.Given as goal

abbrev pub invariant-loop-i : goal.invariant-loop-i
invariant-loop-i g l = Copied l.run l.at l.initial.dst l.dst l.i
