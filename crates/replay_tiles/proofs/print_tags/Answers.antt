use native.Mathlib.Omega.{arith}
use Prim.Native.Nat.{◌-◌}
use Rattle.tile_run.proofs.Courses.{step_ends}
use Rattle.replay_tiles.proofs.print_tags.Goals as goal

pub loop-at-smaller : goal.loop-at-smaller
loop-at-smaller g c =
    omega (arith, (step_ends _ _ _ _ _ _ _ _ _ c.in-Some.is c.advance.ensures).on, c.loop-at-test.true)
