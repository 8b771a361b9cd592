use Prim.Native.Nat.{◌-◌}
use native.Mathlib.Omega.{arith}
use Rattle.index.proofs.Walking.{begin, ends_past, ends_none, turn, key_asked}
use Rattle.std.proofs.Common.{rules, ◌≡◌, cond}
use Rattle.index.proofs.walk_keys.Goals.{then-same_text, else-same_text}
use Rattle.index.proofs.walk_keys.Goals as goal

pub loop-cur-init : goal.loop-cur-init
loop-cur-init c = begin _ _ _ _

pub returns-else-cur-below : goal.returns-else-cur-below
returns-else-cur-below c = search (rules, ends_past)

pub loop-cur-preserved : goal.loop-cur-preserved
loop-cur-preserved c = let I = c.loop-cur.invariant in
    let b : c.if-same_text.best ≡ cond c.same_text.result c.loop-cur.cur c.loop-cur.best = elim c.if-same_text.branch [ then-same_text w ↦ rw w.if-same_text.true w.best-is | else-same_text w ↦ rw w.if-same_text.false w.best-is ] in
    let g = c.args in
    turn _ _ _ _ _ c.loop-cur.cur _ I (omega arith) c.if-cur-below.true _ (key_asked g.keys.now g.texts.now g.key.now (c.loop-cur.cur - 1) _ _ c.wide-start.ensures c.wide-len.ensures _ c.same_text.ensures) _ b _ c.wide-cur.ensures

pub returns-after-loop-cur : goal.returns-after-loop-cur
returns-after-loop-cur c = search (rules, ends_none)
