-- `affine::is_near` meets its contract: the difference and its two comparisons are those of the definition.
use Rattle.std.proofs.Common.{refl}
use Rattle.affine.specs.Facts.{is_near}
use Rattle.affine.proofs.is_near.Goals as goal

pub returns : goal.returns
unfolding is_near
returns c = refl
