-- The ids before the index have one digit.
use Prim.Native.Nat.{◌-◌, ◌/◌}
use lib.ListN.{length}
use Rattle.printed.proofs.Triples.{Digits}
use Rattle.printed.proofs.vertices.digit_ids.Given as goal

abbrev pub invariant-loop-i : goal.invariant-loop-i
invariant-loop-i l = Digits l.numbers l.i
