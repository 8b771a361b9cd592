use mathlib.Core.Path.{refl}
use Rattle.layer.proofs.Listing.{each_start, each_room, each_ok, each_done, each_fails, each_on}
use Rattle.layer.proofs.Repeating.{once_step}
use borrow.Author.Rules.{rules}
use Rattle.layer.proofs.once.are_once.Goals as goal

pub loop-i-init : goal.loop-i-init
loop-i-init c = search (rules, each_start)

pub is_once-requires : goal.is_once-requires
is_once-requires c = search (rules, each_room, each_ok)

pub returns-then-not-is_once : goal.returns-then-not-is_once
returns-then-not-is_once c = let I = c.loop-i.invariant in each_fails I (search rules) _ (once_step _ _ _ (each_room I (search rules))) _ c.is_once.ensures c.if-not-is_once.true-raw

pub overflow_add-i : goal.overflow_add-i
overflow_add-i c = let r = each_room c.loop-i.invariant (search rules) in search rules

pub loop-i-preserved : goal.loop-i-preserved
loop-i-preserved c = let I = c.loop-i.invariant in each_on I (search rules) _ (once_step _ _ _ (each_room I (search rules))) _ c.is_once.ensures c.if-not-is_once.false-raw

pub returns : goal.returns
returns c = each_done c.loop-i.invariant refl (search rules)
