-- By the places, and by what was found: a law for each way.
use borrow.Author.Rules.{rules}
use Rattle.reader.proofs.Stepping.{part_long, value_before, value_beyond, value_end, value_broken, value_long, value_is_lem}
use Rattle.reader.proofs.entries.value_step.Goals as goal

pub returns-then-end-at : goal.returns-then-end-at
returns-then-end-at c = search (rules, value_before)

pub returns-then-src-end : goal.returns-then-src-end
returns-then-src-end c = search (rules, value_beyond)

pub slice_bounds-first_of-end : goal.slice_bounds-first_of-end
slice_bounds-first_of-end c = search (rules, part_long)

pub slice_bounds-value_in-end : goal.slice_bounds-value_in-end
slice_bounds-value_in-end c = search (rules, value_long, c.in_ok-f.was)

pub returns-in_default : goal.returns-in_default
returns-in_default c = search (rules, value_end, c.in_ok-f.was)

pub returns-in_err-f : goal.returns-in_err-f
returns-in_err-f c = search (rules, value_broken, c.in_err-f.was)

pub returns : goal.returns
returns c = search (rules, value_is_lem, c.in_ok-f.was)
