-- The loop's invariant: the entries below j have been pushed.
use Prim.Native.Nat.{◌/◌}
use lib.ListN.{length}
use Rattle.index.specs.Entries.{value_hash}
use Rattle.index.proofs.Pushing.{Built}
use Rattle.index.proofs.build_values.Given as goal

abbrev pub invariant-loop-j : goal.invariant-loop-j
invariant-loop-j l = Built l.initial.index l.index (value_hash l.values l.texts) (length l.values / 3) l.j
