-- What the text shows is printed.
use Prim.Native.Nat.{ℕ}
use lib.ListN.{replicate, length-replicate}
use Rattle.replay.proofs.Parts.{refused_count}
use Rattle.replay.proofs.print_refused.Goals as goal

pub returns : goal.returns
returns g c = refused_count (replicate 53 0) 53 _ _ _ c.show_refused-n.ensures c.number.ensures (length-replicate {A = ℕ} 53 0)
