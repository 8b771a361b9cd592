-- The loop's invariant: the number of the text is what the bytes that are left make of acc.
use Rattle.index.proofs.Hashing.{Inv}
use Rattle.index.proofs.hash_text.Given as goal

abbrev pub invariant-loop-b : goal.invariant-loop-b
invariant-loop-b l = Inv l.text l.acc l.b-index
