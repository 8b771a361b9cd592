-- The lent part is as long as the case says, where the list has so much.
use native.Mathlib.Omega.{arith}
use mathlib.Core.Path.{sym}
use lib.Seq.{length-take-le}
use Rattle.replay_read.proofs.print_case.Goals as goal

pub slice_bounds-print_reading-end-3 : goal.slice_bounds-print_reading-end-3
slice_bounds-print_reading-end-3 g c = sym (length-take-le _ _ (omega arith))
