-- What is read has no more numbers than the list.
use native.Mathlib.Omega.{arith}
use Rattle.io.proofs.Counting.{prefix_len_of_le}
use Rattle.number_file.proofs.Places.{read_within}
use Rattle.replay.proofs.load.Goals as goal

pub returns-in-Ok : goal.returns-in-Ok
returns-in-Ok g c = let h = rw c.in-Ok.is at c.read_numbers.ensures in prefix_len_of_le _ _ (omega (arith, read_within _ _ _ _ h))
