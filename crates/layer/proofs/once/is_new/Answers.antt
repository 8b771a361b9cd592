-- The last tag words are asked for the key.
use lib.Seq.{length-take-le}
use mathlib.Core.Path.{sym}
use Rattle.layer.proofs.Repeating.{new_told}
use borrow.Author.Rules.{rules}
use Rattle.layer.proofs.once.is_new.Goals as goal

pub slice_bounds-has_key-end : goal.slice_bounds-has_key-end
slice_bounds-has_key-end c = sym (length-take-le _ _ (search rules))

pub slice_bounds-has_key-end-2 : goal.slice_bounds-has_key-end-2
slice_bounds-has_key-end-2 c = sym (length-take-le _ _ (search rules))

pub returns : goal.returns
returns c = search (rules, new_told)
