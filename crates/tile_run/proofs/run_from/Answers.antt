use borrow.Author.Rules.{rules}
use mathlib.Core.Path.{refl}
use Prim.Native.Nat.{◌-◌}
use native.Mathlib.Omega.{arith}
use Rattle.tile_run.proofs.Courses.{run_start, run_turn, run_bad, run_done, step_ends}
use Rattle.tile_run.proofs.run_from.Goals as goal

pub loop-at-init : goal.loop-at-init
loop-at-init c =
    (run_start c.requires.numbers_nonzero c.requires.numbers_in_bounds, refl, refl, refl, refl, refl, refl)

pub offset_bounds-outcomes-n : goal.offset_bounds-outcomes-n
offset_bounds-outcomes-n c =
    omega (arith, c.loop-at.invariant.0.few, c.loop-at.invariant.0.inside, c.loop-at.invariant.0.room, c.loop-at.invariant.0.long, c.before.before.before.before.before.before.before.before.before.before.before.before.before.before.before.before.before.before.before.before.before.before.before)

pub bounds-outcomes-n : goal.bounds-outcomes-n
bounds-outcomes-n c =
    omega (arith, c.loop-at.invariant.0.few, c.loop-at.invariant.0.inside, c.loop-at.invariant.0.room, c.loop-at.invariant.0.long)

pub overflow_add-result : goal.overflow_add-result
overflow_add-result c =
    omega (arith, c.loop-at.invariant.0.few, c.loop-at.invariant.0.inside, c.loop-at.invariant.0.room, c.loop-at.invariant.0.long, c.before.before.before.before.before.before.before.before.before.before.before.before.before.before.before.before.before.before.before.before.before.before.before)

pub returns-in_default : goal.returns-in_default
returns-in_default c =
    run_bad c.loop-at.invariant.0 _ _ (search rules) c.in_default.is c.advance.ensures refl

pub offset_bounds-outcomes-n-in-loop-at : goal.offset_bounds-outcomes-n-in-loop-at
offset_bounds-outcomes-n-in-loop-at c =
    omega (arith, c.loop-at.invariant.0.few, c.loop-at.invariant.0.inside, c.loop-at.invariant.0.room, c.loop-at.invariant.0.long, c.before.before.before.before.before.before.before.before.before.before.before.before.before.before.before.before.before.before.before.before.before.before.before)

pub bounds-outcomes-n-in-loop-at : goal.bounds-outcomes-n-in-loop-at
bounds-outcomes-n-in-loop-at c =
    omega (arith, c.loop-at.invariant.0.few, c.loop-at.invariant.0.inside, c.loop-at.invariant.0.room, c.loop-at.invariant.0.long)

pub overflow_add-n : goal.overflow_add-n
overflow_add-n c =
    omega (arith, c.loop-at.invariant.0.few, c.loop-at.invariant.0.inside, c.loop-at.invariant.0.room, c.loop-at.invariant.0.long, c.before.before.before.before.before.before.before.before.before.before.before.before.before.before.before.before.before.before.before.before.before.before.before)

pub loop-at-smaller : goal.loop-at-smaller
loop-at-smaller c =
    omega (arith, (step_ends _ _ _ _ _ _ _ _ _ c.in-Some.is c.advance.ensures).on, c.loop-at-test)

pub loop-at-preserved : goal.loop-at-preserved
loop-at-preserved c = (
  run_turn c.loop-at.invariant.0 _ _ _ _ (search rules) c.in-Some.is c.advance.ensures,
  search rules,
  search rules,
  search rules,
  search rules,
  search rules,
  search rules,
)

pub returns : goal.returns
returns c = run_done c.loop-at.invariant.0 _ (search rules) refl
