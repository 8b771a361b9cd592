-- What the text shows is printed.
use Prim.Native.Nat.{ℕ}
use lib.ListN.{replicate, length-replicate}
use Rattle.printed.specs.Printed.{words_length}
use Rattle.replay.proofs.Parts.{words_count}
use Rattle.replay.proofs.print_words.Goals as goal

pub returns : goal.returns
returns g c = words_count (replicate words_length 0) words_length _ _ c.show_words-k.ensures c.first_words.ensures (length-replicate {A = ℕ} words_length 0)
