-- No slots, no entry; else the walk starts at the head of the bucket.
use Prim.Native.Nat.{◌/◌}
use lib.ListN.{length}
use Rattle.index.specs.Entries.{key_at}
use Rattle.index.proofs.Walking.{walked_nowhere, in_slots, ahead_keys, walked_is, found_is}
use borrow.Author.Rules.{rules}
use Rattle.index.proofs.key_pos.Goals as goal

pub returns-then-slots-eq0 : goal.returns-then-slots-eq0
returns-then-slots-eq0 c = search (rules, walked_nowhere)

pub offset_bounds-index-hash : goal.offset_bounds-index-hash
offset_bounds-index-hash c = search (rules, in_slots)

pub bounds-index-hash : goal.bounds-index-hash
bounds-index-hash c = search (rules, in_slots)

pub walk_keys-requires : goal.walk_keys-requires
walk_keys-requires c = search (rules, ahead_keys)

pub returns : goal.returns
returns c = let g = c.args in
    walked_is g.index.now (key_at g.keys.now g.texts.now g.key.now) (length g.keys.now / 2) g.hash _ (search rules) _ c.wide-head.ensures _ c.walk_keys.ensures _ (found_is _ _ c.checked_sub.ensures)
