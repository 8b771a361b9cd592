-- As far as the loop has come, the rest of the bytes gives the verdict; so does the byte at which it stops.
use Rattle.scanning.proofs.Placing.{Scanning}
use Rattle.scanning.proofs.place.place_of.Given as goal

abbrev pub invariant-loop-i : goal.invariant-loop-i
invariant-loop-i l = Scanning l.src l.s l.i
