-- The room is no more than the list's length, and no more than the cap.
use Prim.Native.Nat.{ℕ, ◌≤◌}
use Rattle.number.proofs.Least.{smaller_le}
use Rattle.words.specs.Geometries.{max_words, room}

module _ (n : ℕ) where
  pub room_length : room n ≤ n
  room_length = (smaller_le n max_words).0

  pub room_cap : room n ≤ max_words
  room_cap = (smaller_le n max_words).1
