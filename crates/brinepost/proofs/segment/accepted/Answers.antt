-- The coordinates as they were given, and each edge's number.
use mathlib.Core.Path.{refl}
use mir.Facts.{to_z-of_z}
use Rattle.brinepost.proofs.segment.accepted.Goals as goal

pub returns : goal.returns
returns c =
    let f = c.ranges in
    rw (to_z-of_z f.x0, to_z-of_z f.y0, to_z-of_z f.x1, to_z-of_z f.y1, c.number.ensures, c.number-2.ensures) refl
