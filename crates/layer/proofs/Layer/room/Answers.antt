-- Each figure is what `smaller` answers.
use Rattle.layer.proofs.Layer.room.Goals as goal

pub returns : goal.returns
returns c = cc
