-- Three stores side by side; an id below eight is the same number as an i32.
use native.Mathlib.Omega.{arith}
use lib.ListN.{length-set}
use mir.Syntax.{w32}
use mir.Facts.{to_z-of_z, to_z_pos}
use Rattle.promise.proofs.Stores.{three_stores}
use Rattle.decoder.proofs.passes.put.Goals as goal

pub returns : goal.returns
returns c =
    rw (to_z_pos w32 {n = c.args.id} (omega arith), to_z-of_z c.ranges.x, to_z-of_z c.ranges.y) (three_stores c.args.out.now c.args.at _ _ _ (omega arith))
