-- The loop's invariant: every tag is UTF-8 where those not asked yet are.
use Prim.Native.Nat.{◌*◌}
use lib.ListN.{length}
use Rattle.layer.proofs.Listing.{Each}
use Rattle.layer.proofs.Scanning.{all_utf8}
use Rattle.layer.proofs.tag_list.are_utf8.Given as goal

abbrev pub invariant-loop-t : goal.invariant-loop-t
invariant-loop-t l = Each (length l.bytes) l.tags (all_utf8 l.bytes) (l.t-index * 5)
