-- The field where the id is set, else nothing.
use mathlib.Core.Path.{sym, ap}
use lib.ListN.{length}
use Rattle.promise.proofs.Fronts.{long_as}
use Rattle.tile.proofs.Features.{id_set, id_unset}
use Rattle.tile.proofs.feature.id_size.Goals as goal

pub returns-then-mark-eq1 : goal.returns-then-mark-eq1
returns-then-mark-eq1 c = long_as (id_set _ _ _ _ c.of_halves.ensures c.if-mark-eq1.true) c.varint_field_size.ensures

pub returns : goal.returns
returns c = sym (ap length (id_unset _ _ _ c.if-mark-eq1.false))
