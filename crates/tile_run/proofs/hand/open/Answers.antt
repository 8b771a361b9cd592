-- By what is at hand: nothing, or what the layer's call gave.
use Rattle.tile_run.proofs.Handling.{no_layer_lem, on_layer_lem}
use Rattle.tile_run.proofs.hand.open.Goals as goal

pub returns-in-None : goal.returns-in-None
returns-in-None c = no_layer_lem _ c.args.h _ c.in-None.is

pub returns-in-Some : goal.returns-in-Some
returns-in-Some c = on_layer_lem _ c.args.h _ _ _ _ _ c.in-Some.is c.into_feature.ensures c.hold.ensures
