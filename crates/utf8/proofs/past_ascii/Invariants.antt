-- The loop's invariant: the text is UTF-8 where what is from the next four bytes on is, since four bytes of ASCII more change nothing.
use Prim.Native.Nat.{◌*◌}
use Rattle.utf8.specs.Steps.{Read}
use Rattle.utf8.proofs.past_ascii.Given as goal

abbrev pub invariant-loop-k : goal.invariant-loop-k
invariant-loop-k l = Read l.text 0 (4 * l.k)
