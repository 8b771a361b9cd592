-- The program's lists are as large as `answer` asks.
use mathlib.Core.Path.{sym}
use lib.Seq.{length-take-le}
use borrow.Author.Rules.{rules}
use Rattle.edges.proofs.main.Goals as goal

pub answer-k-requires : goal.answer-k-requires
answer-k-requires c = record { numbers_in_bounds = search rules; in_bounds = search rules; edges_in_bounds = search rules }

pub slice_bounds-write_all-end : goal.slice_bounds-write_all-end
slice_bounds-write_all-end c = sym (length-take-le _ _ c.answer-k.ensures.inside)
