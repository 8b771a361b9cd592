-- `affine::map_plain` meets its contract: after each turn the numbers from `from` up to i are those of whole points, mapped and laid.
use Rattle.std.proofs.Common.{◌-◌}
use Rattle.affine.specs.Facts.{MapsPlain}
use Rattle.affine.proofs.map_plain.Given as goal

abbrev pub invariant-loop-i : goal.invariant-loop-i
invariant-loop-i l = MapsPlain l.t l.points l.from l.to l.initial.out l.i l.out

abbrev pub decreases-loop-i : goal.decreases-loop-i
decreases-loop-i l = l.to - l.i
