-- The loop's invariant: what is left of the walk gives the answer.
use Rattle.index.specs.Entries.{key_at}
use Rattle.index.proofs.Walking.{Inv}
use Rattle.index.proofs.walk_keys.Given as goal

abbrev pub invariant-loop-cur : goal.invariant-loop-cur
invariant-loop-cur l = Inv l.index (key_at l.keys l.texts l.key) l.limit l.head l.below l.cur l.best

abbrev pub decreases-loop-cur : goal.decreases-loop-cur
decreases-loop-cur l = l.below
