-- A refused layer stays at hand.
use Rattle.tile_run.proofs.Working.{added_refused}
use Rattle.tile_run.proofs.performing.after_adding.Goals as goal

pub returns-in-Err : goal.returns-in-Err
returns-in-Err c = added_refused _ _ _ c.in-Err.is
