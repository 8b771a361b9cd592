-- The tag is looked up among the earlier ones, which are the tags before i, and the figures grow by what is new.
use mathlib.Core.Path.{sym}
use native.Mathlib.Omega.{arith}
use lib.Seq.{length-take-le}
use Rattle.layer.proofs.Knowing.{key_asked, value_asked, need_small, need_is}
use borrow.Author.Rules.{rules}
use Rattle.layer.proofs.need.need_of.Goals as goal

pub slice_bounds-key_known-end : goal.slice_bounds-key_known-end
slice_bounds-key_known-end c = sym (length-take-le _ _ (omega arith))

pub key_known-kf-requires : goal.key_known-kf-requires
key_known-kf-requires c = search (rules, key_asked)

pub slice_bounds-value_known-end : goal.slice_bounds-value_known-end
slice_bounds-value_known-end c = sym (length-take-le _ _ (omega arith))

pub value_known-vf-requires : goal.value_known-vf-requires
value_known-vf-requires c = search (rules, value_asked)

pub grown-requires : goal.grown-requires
grown-requires c = search (rules, need_small)

pub returns : goal.returns
returns c = search (rules, need_is)
