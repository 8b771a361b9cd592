-- The field where the id is set, else nothing.
use Rattle.promise.proofs.Fronts.{put_nothing}
use Rattle.promise.proofs.Fronts.{put_as}
use Rattle.tile.proofs.Features.{id_set, id_unset}
use Rattle.tile.proofs.feature.put_id.Goals as goal

pub returns-then-mark-eq1 : goal.returns-then-mark-eq1
returns-then-mark-eq1 c = put_as _ (id_set _ _ _ _ c.of_halves.ensures c.if-mark-eq1.true) c.put_varint_field.ensures

pub returns : goal.returns
returns c = put_as _ (id_unset _ _ _ c.if-mark-eq1.false) (put_nothing _)
