-- The loop's invariant: the text is UTF-8 where what is from i on is; that is told sequence by sequence from the first byte on that is not ASCII.
use Rattle.utf8.specs.Steps.{Read}
use Rattle.utf8.proofs.is_utf8.Given as goal

abbrev pub invariant-loop-i : goal.invariant-loop-i
invariant-loop-i l = Read l.text 0 l.i
