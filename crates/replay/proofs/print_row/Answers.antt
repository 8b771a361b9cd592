-- What the text shows is printed.
use Prim.Native.Nat.{ℕ}
use lib.ListN.{replicate, length-replicate}
use Rattle.replay.proofs.Parts.{shown_count}
use Rattle.replay.proofs.print_row.Goals as goal

pub returns : goal.returns
returns g c = shown_count _ _ (replicate 374 0) 374 c.show_row-n.ensures (length-replicate {A = ℕ} 374 0)
