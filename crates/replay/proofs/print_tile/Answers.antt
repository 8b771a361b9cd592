-- What the text shows is printed.
use Prim.Native.Nat.{ℕ}
use lib.ListN.{replicate, length-replicate}
use Rattle.printed.specs.Tiles.{tile_length}
use Rattle.replay.proofs.Parts.{tile_count}
use Rattle.replay.proofs.print_tile.Goals as goal

pub returns : goal.returns
returns g c = tile_count (replicate tile_length 0) tile_length _ _ _ _ c.show_tile-k.ensures c.first_words.ensures c.first_bytes.ensures (length-replicate {A = ℕ} tile_length 0)
