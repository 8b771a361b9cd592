-- After k turns the bytes up to k lie in their ranges, and those from k on are still to be looked at.
use Rattle.utf8.proofs.Laws.{Inv}
use Rattle.utf8.proofs.followed.Given as goal

abbrev pub invariant-loop-k : goal.invariant-loop-k
invariant-loop-k l = Inv l.text l.i l.low l.high l.n l.lo l.hi l.k
