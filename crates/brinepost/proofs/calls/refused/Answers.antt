-- The number is the refusal's own.
use Rattle.brinepost.proofs.calls.refused.Goals as goal

pub returns : goal.returns
returns c = cc
