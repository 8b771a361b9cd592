-- The two halves are what `low` and `high` answer.
use Rattle.layer.proofs.value.value_of.Goals as goal

pub returns : goal.returns
returns c = cc
