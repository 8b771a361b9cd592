-- JOB, where the heads are none; else STATE is asked once. The loop's invariant: what is left of the heads gives the rest, what is known of STATE is still so, and
-- the indexes are right once a feature was accepted.
use Prim.Native.Nat.{◌-◌}
use lib.ListN.{length}
use Rattle.layer.specs.Held.{mem}
use Rattle.layer.specs.Lookup.{idx}
use Rattle.layer.proofs.Going.{Going}
use Rattle.layer.proofs.many.add_features.Given as goal

abbrev pub invariant-loop-i : goal.invariant-loop-i
invariant-loop-i l =
    Going l.heads l.words l.tags l.bytes l.stands l.initial.t (mem l.initial.keys l.initial.values l.initial.texts l.initial.features) (idx l.initial.ki l.initial.vi) l.t (mem l.keys l.values l.texts l.features) (idx l.ki l.vi) l.i l.w l.g l.n

abbrev pub decreases-loop-i : goal.decreases-loop-i
decreases-loop-i l = length l.heads - l.i
