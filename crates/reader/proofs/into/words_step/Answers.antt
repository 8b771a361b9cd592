-- The tests are the definition's, and the list is written only after the last of them.
use mathlib.Core.Path.{sym}
use native.Mathlib.Omega.{arith}
use borrow.Author.Rules.{rules}
use lib.Seq.{length-take-le}
use Rattle.reader.proofs.WordsTold.{words_before, words_beyond, words_broken, words_no_room, words_able, words_laid}
use Rattle.reader.proofs.into.words_step.Goals as goal

pub returns-then-end-start : goal.returns-then-end-start
returns-then-end-start c = search (rules, words_before)

pub returns-then-src-end : goal.returns-then-src-end
returns-then-src-end c = search (rules, words_beyond)

pub slice_bounds-part-end : goal.slice_bounds-part-end
slice_bounds-part-end c = sym (length-take-le _ _ (omega arith))

pub returns-then-out-n : goal.returns-then-out-n
returns-then-out-n c = search (rules, words_no_room)

pub lay_fields-requires : goal.lay_fields-requires
lay_fields-requires c = search (rules, words_able)

pub returns-in_default : goal.returns-in_default
returns-in_default c = search (rules, words_broken)

pub returns : goal.returns
returns c = search (rules, words_laid)
