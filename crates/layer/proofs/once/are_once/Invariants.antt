-- The loop's invariant: no key comes twice where none of the tags from i on does.
use Prim.Native.Nat.{◌-◌}
use lib.ListN.{length}
use Rattle.layer.proofs.Listing.{Each}
use Rattle.layer.specs.TagLists.{keys_once}
use Rattle.layer.proofs.once.are_once.Given as goal

abbrev pub invariant-loop-i : goal.invariant-loop-i
invariant-loop-i l = Each (length l.bytes) l.tags (keys_once l.bytes) l.i

abbrev pub decreases-loop-i : goal.decreases-loop-i
decreases-loop-i l = length l.tags - l.i
