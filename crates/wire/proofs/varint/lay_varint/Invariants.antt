-- After each turn the bytes written, and the varint of what is left, are the varint of n.
use Rattle.wire.proofs.Varints.{Writing}
use Rattle.wire.proofs.varint.lay_varint.Given as goal

abbrev pub invariant-loop-m : goal.invariant-loop-m
invariant-loop-m l = Writing l.n l.initial.out l.out l.m l.i

abbrev pub decreases-loop-m : goal.decreases-loop-m
decreases-loop-m l = l.m
