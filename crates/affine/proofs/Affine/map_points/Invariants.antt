-- `affine::Affine::map_points` meets its contract: after each turn the numbers up to i are mapped and laid, plain points by the run, each other one by itself.
use Rattle.std.proofs.Common.{◌-◌}
use Rattle.affine.specs.Facts.{MapsPlain}
use Rattle.affine.proofs.Affine.map_points.Given as goal

abbrev pub invariant-loop-i : goal.invariant-loop-i
invariant-loop-i l = MapsPlain l.self l.points 0 l.end l.initial.out l.i l.out

abbrev pub decreases-loop-i : goal.decreases-loop-i
decreases-loop-i l = l.end - l.i
