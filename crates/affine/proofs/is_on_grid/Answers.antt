-- `affine::is_on_grid` meets its contract: its two comparisons are the limit test of the nearest whole number.
use lib.Ieee.{of_bits, neg}
use Rattle.affine.proofs.Limits.{small_is}
use Rattle.affine.proofs.is_on_grid.Goals as goal

pub returns : goal.returns
unfolding of_bits neg
returns c = small_is c.args.x
