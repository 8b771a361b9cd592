-- After each turn the size so far and that of the keys to come are that of all.
use Rattle.tile.proofs.Looping.{Sizing}
use Rattle.tile.proofs.Entries.{key_walk}
use Rattle.tile.proofs.key_fields.keys_size.Given as goal

abbrev pub invariant-loop-e : goal.invariant-loop-e
invariant-loop-e l = Sizing (key_walk l.texts l.keys) l.size l.e-index
