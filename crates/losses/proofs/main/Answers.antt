-- The program's lists are as large as `answer` asks.
use mathlib.Core.Path.{sym}
use lib.Seq.{length-take-le}
use Rattle.losses.proofs.main.Goals as goal

pub slice_bounds-write_all-end : goal.slice_bounds-write_all-end
slice_bounds-write_all-end c = sym (length-take-le _ _ c.answer-k.ensures.inside)
