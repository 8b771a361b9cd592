-- The key says whether the numbers are packed, one by itself, or none.
use mathlib.Core.Path.{sym}
use borrow.Author.Rules.{rules}
use lib.Seq.{length-take-le}
use Rattle.reader.proofs.WordsLaid.{list_fits, list_laid, one_fits, one_laid, none_laid}
use Rattle.reader.proofs.into.lay_field.Goals as goal

pub slice_bounds-lay_varints-end : goal.slice_bounds-lay_varints-end
slice_bounds-lay_varints-end c = sym (length-take-le _ _ c.requires.inside)

pub lay_varints-requires : goal.lay_varints-requires
lay_varints-requires c = search (rules, list_fits)

pub returns-then-f-packed : goal.returns-then-f-packed
returns-then-f-packed c = search (rules, list_laid)

pub bounds-out-from : goal.bounds-out-from
bounds-out-from c = one_fits _ _ _ _ _ _ c.requires c.if-f-packed.false c.if-f-single.true

pub returns-then-f-single : goal.returns-then-f-single
returns-then-f-single c = search (rules, one_laid)

pub returns : goal.returns
returns c = search (rules, none_laid)
