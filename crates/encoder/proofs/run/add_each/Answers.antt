use native.Mathlib.Omega.{arith}
use mathlib.Core.Path.{refl}
use Rattle.encoder.proofs.Runs.{each_start, each_all, each_turn, each_stop}
use borrow.Author.Rules.{rules}
use Rattle.encoder.proofs.run.add_each.Goals as goal

pub loop-i-init : goal.loop-i-init
loop-i-init c = (refl, search (rules, each_start))

pub returns-in-Err : goal.returns-in-Err
returns-in-Err c =
    each_stop _ _ _ _ _ _ c.loop-i.invariant.1 (omega (arith, c.loop-i-test.true, c.loop-i.invariant.0)) c.add_point.result _ c.x-1.given c.y-1.given
    c.add_point.ensures.answer _ c.in-Err.is

pub loop-i-preserved : goal.loop-i-preserved
loop-i-preserved c = (
  c.loop-i.invariant.0,
  each_turn _ _ _ _ _ _ c.loop-i.invariant.1 (omega (arith, c.loop-i-test.true, c.loop-i.invariant.0)) c.add_point.result _ c.x-1.given c.y-1.given
      c.add_point.ensures.answer _ _ c.in-Ok.is (search rules),
)

pub returns : goal.returns
returns c = each_all _ _ _ _ _ _ c.loop-i.invariant.1 (omega (arith, c.loop-i-test.false, c.loop-i.invariant.0))
