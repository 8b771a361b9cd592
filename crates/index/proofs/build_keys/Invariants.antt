-- The loop's invariant: the entries below j have been pushed.
use Prim.Native.Nat.{◌/◌}
use lib.ListN.{length}
use Rattle.index.specs.Entries.{key_hash}
use Rattle.index.proofs.Pushing.{Built}
use Rattle.index.proofs.build_keys.Given as goal

abbrev pub invariant-loop-j : goal.invariant-loop-j
invariant-loop-j l = Built l.initial.index l.index (key_hash l.keys l.texts) (length l.keys / 2) l.j
