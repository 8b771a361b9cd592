-- The open record's six words are there, and the fifth is the number.
use Prim.Native.Nat.{◌+◌, ◌<◌}
use native.Mathlib.Omega.{arith}
use Rattle.layer.proofs.Telling.{tags_state, tags_shut, tags_in_lem, tags_small, tags_is}
use borrow.Author.Rules.{rules}
use Rattle.layer.proofs.asking.num_tags.Goals as goal

pub returns-then-not-is_valid : goal.returns-then-not-is_valid
returns-then-not-is_valid c = search (rules, tags_state)

pub returns-in_default : goal.returns-in_default
returns-in_default c = search (rules, tags_shut)

pub overflow_add-at : goal.overflow_add-at
overflow_add-at c = let h : c.in-Some.o.features + 4 < 4294967296 = search (rules, tags_small) in record { fits = omega arith }

pub offset_bounds-features-at : goal.offset_bounds-features-at
offset_bounds-features-at c = let h : c.in-Some.o.features + 4 < 4294967296 = search (rules, tags_small) in record { fits = omega arith }

pub bounds-features-at : goal.bounds-features-at
bounds-features-at c = search (rules, tags_in_lem)

pub returns : goal.returns
returns c = search (rules, tags_is)
