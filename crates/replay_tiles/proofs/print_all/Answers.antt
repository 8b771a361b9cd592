use borrow.Author.Rules.{rules}
use native.Mathlib.Omega.{arith}
use Prim.Native.Nat.{◌-◌}
use Rattle.replay_tiles.proofs.print_all.Goals as goal

pub loop-at-smaller : goal.loop-at-smaller
loop-at-smaller g c = omega (arith, c.past-at.ensures.on (search rules))

pub loop-at-preserved : goal.loop-at-preserved
loop-at-preserved g c = c.past-at.ensures.inside
