-- `affine::stepped` meets its contract: the sum and the difference are those of the definition.
use Rattle.std.proofs.Common.{refl}
use Rattle.affine.specs.Facts.{stepped}
use Rattle.affine.proofs.stepped.Goals as goal

pub returns : goal.returns
unfolding stepped
returns c = refl
