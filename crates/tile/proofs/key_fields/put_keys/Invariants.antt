-- After each turn the bytes put so far and those of the keys to come are those of all.
use Rattle.tile.proofs.Looping.{Laying}
use Rattle.tile.proofs.Entries.{key_walk}
use Rattle.tile.proofs.key_fields.put_keys.Given as goal

abbrev pub invariant-loop-e : goal.invariant-loop-e
invariant-loop-e l = Laying (key_walk l.texts l.keys) l.initial.out l.out l.at l.e-index
