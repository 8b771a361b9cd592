-- By what is at hand: nothing, or what adding the layer answered.
use Rattle.tile_run.proofs.Working.{none_added, layer_added}
use Rattle.tile_run.proofs.performing.add.Goals as goal

pub returns-in-None : goal.returns-in-None
returns-in-None c = none_added c.args.w _ _ c.in-None.is

pub returns-in-Some : goal.returns-in-Some
returns-in-Some c = layer_added c.args.w _ _ _ _ _ _ c.in-Some.is c.add_layer.ensures c.after_adding.ensures
