-- Each turn goes on by an operation, which takes a number at least; the lists keep their lengths.
use Prim.Native.Nat.{◌-◌}
use mathlib.Core.Path.{◌≡◌}
use lib.ListN.{length}
use Rattle.replay_tiles.proofs.print_tags.Given as goal

abbrev pub invariant-loop-at : goal.invariant-loop-at
invariant-loop-at g l =
    (length l.keys ≡ 8192) × (length l.values ≡ 12288) × (length l.texts ≡ 65536) × (length l.features ≡ 32768) × (length l.names ≡ 8192) × (length l.out ≡ 131072)

abbrev pub decreases-loop-at : goal.decreases-loop-at
decreases-loop-at g l = length l.numbers - l.at
