-- The opening figures fit, the records up to the open one follow each other, and the open one is the last.
use lib.Seq.{length-take-le}
use mathlib.Core.Path.{sym}
use Rattle.layer.proofs.Fitting.{since_not, since_at, since_is}
use borrow.Author.Rules.{rules}
use Rattle.layer.proofs.state.since_ok.Goals as goal

pub returns-then-not-fits_in : goal.returns-then-not-fits_in
returns-then-not-fits_in c = search (rules, since_not)

pub slice_bounds-count-end : goal.slice_bounds-count-end
slice_bounds-count-end c = sym (length-take-le _ _ (search (rules, since_at)))

pub returns : goal.returns
returns c = search (rules, since_is)
