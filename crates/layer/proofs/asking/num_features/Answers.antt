-- The records up to the open one are counted, or all where none is open.
use lib.Seq.{length-take-le}
use mathlib.Core.Path.{sym}
use Rattle.layer.proofs.Entries.{index_is}
use Rattle.layer.proofs.Telling.{count_state, count_in, count_is}
use borrow.Author.Rules.{rules}
use Rattle.layer.proofs.asking.num_features.Goals as goal

pub returns-then-not-is_valid : goal.returns-then-not-is_valid
returns-then-not-is_valid c = search (rules, count_state)

pub slice_bounds-count-end : goal.slice_bounds-count-end
slice_bounds-count-end c = sym (length-take-le _ _ (search (rules, count_in)))

pub returns : goal.returns
returns c = search (rules, count_is, index_is)
