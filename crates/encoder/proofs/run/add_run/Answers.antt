use native.Mathlib.Omega.{arith}
use mathlib.Core.Path.{◌≡◌}
use mathlib.Core.Bool.{Bool, true, false, cond, not, ◌&&◌}
use Prim.Native.Nat.{ℕ, ◌+◌, ◌*◌, ◌≤◌, ◌<◌}
use lib.Dec.{leb}
use Rattle.encoder.proofs.Runs.{run_start, run_all, run_stretch, run_valid, run_turn, run_stop}
use borrow.Author.Rules.{rules}
use Rattle.encoder.proofs.run.add_run.Goals as goal

after_stretch : (a tried : Bool) → (a && not tried) ≡ true → (n m : ℕ) → m ≤ n → 2 * m + 0 < 2 * n + cond tried 0 1
after_stretch true false e n m h = omega arith
after_stretch true true e n m h = absurd (let z : ◌≡◌ {A = ℕ} 0 1 = cc in omega arith)
after_stretch false tried e n m h = absurd (let z : ◌≡◌ {A = ℕ} 0 1 = cc in omega arith)

after_point : (tried : Bool) (n m : ℕ) → m < n → 2 * m + 1 < 2 * n + cond tried 0 1
after_point true n m h = omega arith
after_point false n m h = omega arith

pub loop-i-init : goal.loop-i-init
loop-i-init c = run_start _ _ _ _ _ c.requires.from_le_to c.requires.sound

pub add_stretch-plain-requires : goal.add_stretch-plain-requires
add_stretch-plain-requires c = c.loop-i.invariant.sound

pub loop-i-smaller-then-q-tried : goal.loop-i-smaller-then-q-tried
loop-i-smaller-then-q-tried c =
    let moved = run_stretch _ _ _ _ _ c.requires.to_in_bounds _ _ _ c.loop-i.invariant c.add_stretch-plain.result _ c.add_stretch-plain.ensures in
    after_stretch (leb 2 c.loop-i.q.count) c.loop-i.tried c.if-q-tried.true _ _ (omega (arith, moved.1))

pub loop-i-preserved-then-q-tried : goal.loop-i-preserved-then-q-tried
loop-i-preserved-then-q-tried c =
    (run_stretch _ _ _ _ _ c.requires.to_in_bounds _ _ _ c.loop-i.invariant c.add_stretch-plain.result _ c.add_stretch-plain.ensures).0

pub add_valid-requires : goal.add_valid-requires
add_valid-requires c = run_valid _ _ _ _ _ c.requires.to_in_bounds _ _ _ c.loop-i.invariant

pub returns-in-Err : goal.returns-in-Err
returns-in-Err c =
    run_stop _ _ _ _ _ c.requires.to_in_bounds _ _ _ c.loop-i.invariant c.loop-i-test.true c.add_valid.result _ c.x-1.given c.y-1.given c.add_valid.ensures.answer _ c.in-Err.is

pub overflow_add-i : goal.overflow_add-i
overflow_add-i c =
    omega (arith, c.loop-i-test.true, c.ranges.to.fits)

pub loop-i-smaller : goal.loop-i-smaller
loop-i-smaller c =
    after_point c.loop-i.tried _ _ (omega (arith, c.loop-i-test.true))

pub loop-i-preserved : goal.loop-i-preserved
loop-i-preserved c =
    run_turn _ _ _ _ _ c.requires.to_in_bounds _ _ _ c.loop-i.invariant c.loop-i-test.true c.add_valid.result _ c.x-1.given c.y-1.given c.add_valid.ensures.answer _ _ c.in-Ok.is (search rules)

pub returns : goal.returns
returns c = run_all _ _ _ _ _ c.requires.to_in_bounds _ _ _ c.loop-i.invariant (omega (arith, c.loop-i-test.false))
