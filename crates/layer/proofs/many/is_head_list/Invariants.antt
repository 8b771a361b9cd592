-- The loop's invariant: the list is one where the heads to come are one of the words and tags that are left.
use Prim.Native.Nat.{◌*◌}
use Rattle.layer.proofs.Heads.{Inv}
use Rattle.layer.proofs.many.is_head_list.Given as goal

abbrev pub invariant-loop-h : goal.invariant-loop-h
invariant-loop-h l = Inv l.words l.tags l.heads (l.h-index * 6) l.w l.t
