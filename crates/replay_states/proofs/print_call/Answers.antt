-- The lent part is as long as the case says, where the list has so much; the call keeps its length.
use native.Mathlib.Omega.{arith}
use mathlib.Core.Path.{sym}
use lib.Seq.{length-take-le}
use Rattle.replay_states.proofs.print_call.Goals as goal

pub slice_bounds-call-end-2 : goal.slice_bounds-call-end-2
slice_bounds-call-end-2 g c = sym (length-take-le _ _ (omega arith))

pub slice_bounds-print_words-end-2 : goal.slice_bounds-print_words-end-2
slice_bounds-print_words-end-2 g c = sym (length-take-le _ _ (omega arith))
