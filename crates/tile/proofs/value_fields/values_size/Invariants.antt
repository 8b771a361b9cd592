-- After each turn the size so far and that of the values to come are that of all.
use Rattle.tile.proofs.Looping.{Sizing}
use Rattle.tile.proofs.Entries.{value_walk}
use Rattle.tile.proofs.value_fields.values_size.Given as goal

abbrev pub invariant-loop-e : goal.invariant-loop-e
invariant-loop-e l = Sizing (value_walk l.texts l.values) l.size l.e-index
