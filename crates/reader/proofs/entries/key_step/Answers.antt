-- By the places, and by what was found: a law for each way.
use borrow.Author.Rules.{rules}
use Rattle.reader.proofs.Stepping.{part_long, key_before, key_beyond, key_end, key_broken, key_ordered, key_is_lem}
use Rattle.reader.proofs.entries.key_step.Goals as goal

pub returns-then-end-at : goal.returns-then-end-at
returns-then-end-at c = search (rules, key_before)

pub returns-then-src-end : goal.returns-then-src-end
returns-then-src-end c = search (rules, key_beyond)

pub slice_bounds-first_of-end : goal.slice_bounds-first_of-end
slice_bounds-first_of-end c = search (rules, part_long)

pub part_of-requires : goal.part_of-requires
part_of-requires c = search (rules, key_ordered, c.in_ok-f.was)

pub returns-in_default : goal.returns-in_default
returns-in_default c = search (rules, key_end, c.in_ok-f.was)

pub returns-in_err-f : goal.returns-in_err-f
returns-in_err-f c = search (rules, key_broken, c.in_err-f.was)

pub returns : goal.returns
returns c = search (rules, key_is_lem, c.in_ok-f.was)
