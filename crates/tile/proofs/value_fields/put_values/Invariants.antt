-- After each turn the bytes put so far and those of the values to come are those of all.
use Rattle.tile.proofs.Looping.{Laying}
use Rattle.tile.proofs.Entries.{value_walk}
use Rattle.tile.proofs.value_fields.put_values.Given as goal

abbrev pub invariant-loop-e : goal.invariant-loop-e
invariant-loop-e l = Laying (value_walk l.texts l.values) l.initial.out l.out l.at l.e-index
