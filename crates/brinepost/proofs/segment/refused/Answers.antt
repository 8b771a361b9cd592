-- The refusal's number, and zeros.
use mathlib.Core.Path.{refl}
use Rattle.brinepost.proofs.segment.refused.Goals as goal

pub returns : goal.returns
returns c = rw c.number.ensures refl
