use native.Mathlib.Omega.{arith}
use Rattle.index.proofs.Walking.{begin, ends_past, ends_none, turn}
use Rattle.std.proofs.Common.{rules, ◌≡◌, cond}
use Rattle.index.proofs.walk_values.Goals.{then-same_value, else-same_value}
use Rattle.index.proofs.walk_values.Goals as goal

pub loop-cur-init : goal.loop-cur-init
loop-cur-init c = begin _ _ _ _

pub returns-else-cur-below : goal.returns-else-cur-below
returns-else-cur-below c = search (rules, ends_past)

pub loop-cur-preserved : goal.loop-cur-preserved
loop-cur-preserved c = let I = c.loop-cur.invariant in
    let b : c.if-same_value.best ≡ cond c.same_value.result c.loop-cur.cur c.loop-cur.best = elim c.if-same_value.branch [ then-same_value w ↦ rw w.if-same_value.true w.best-is | else-same_value w ↦ rw w.if-same_value.false w.best-is ] in
    turn _ _ _ _ _ c.loop-cur.cur _ I (omega arith) c.if-cur-below.true _ c.same_value.ensures _ b _ c.wide-cur.ensures

pub returns-after-loop-cur : goal.returns-after-loop-cur
returns-after-loop-cur c = search (rules, ends_none)
