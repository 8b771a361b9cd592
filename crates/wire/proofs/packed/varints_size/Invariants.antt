-- After each turn the size so far and that of the words to come are that of all.
use Rattle.wire.proofs.Packing.{Sizing}
use Rattle.wire.proofs.packed.varints_size.Given as goal

abbrev pub invariant-loop-word : goal.invariant-loop-word
invariant-loop-word l = Sizing l.words l.word-index l.size
