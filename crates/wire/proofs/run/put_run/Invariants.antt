-- After each turn so many bytes stand at the front.
use Rattle.promise.proofs.Copying.{Copied}
use Rattle.wire.proofs.run.put_run.Given as goal

abbrev pub invariant-loop-i : goal.invariant-loop-i
invariant-loop-i l = Copied l.bytes 0 l.initial.out l.out l.i
