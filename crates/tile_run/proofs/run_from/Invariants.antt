-- Each turn performs the operation at its place; the rest of the run is the run from the next place.
use mathlib.Core.Path.{◌≡◌}
use Prim.Native.Nat.{◌-◌}
use lib.ListN.{length}
use Rattle.layer.specs.Held.{mem}
use Rattle.tile.specs.Tiles.{lists as tileLists}
use Rattle.tile_run.specs.Operations.{lists}
use Rattle.tile_run.proofs.Courses.{Running}
use Rattle.tile_run.proofs.run_from.Given as goal

abbrev pub invariant-loop-at : goal.invariant-loop-at
invariant-loop-at l =
    (Running l.bytes l.numbers l.initial.outcomes l.outcomes l.initial.w (lists (mem l.initial.keys l.initial.values l.initial.texts l.initial.features) (tileLists l.initial.names l.initial.out)) l.w (lists (mem l.keys l.values l.texts l.features) (tileLists l.names l.out)) l.at l.n)
    × (length l.keys ≡ length l.initial.keys) × (length l.values ≡ length l.initial.values) × (length l.texts ≡ length l.initial.texts) × (length l.features ≡ length l.initial.features) × (length l.names ≡ length l.initial.names) × (length l.out ≡ length l.initial.out)

abbrev pub decreases-loop-at : goal.decreases-loop-at
decreases-loop-at l = length l.numbers - l.at
