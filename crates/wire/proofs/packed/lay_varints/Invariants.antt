-- After each turn the bytes put so far and those of the words to come are those of all.
use Rattle.wire.proofs.Packing.{Packing}
use Rattle.wire.proofs.packed.lay_varints.Given as goal

abbrev pub invariant-loop-word : goal.invariant-loop-word
invariant-loop-word l = Packing l.words l.initial.out l.out l.word-index l.at
