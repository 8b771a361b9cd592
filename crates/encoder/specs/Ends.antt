-- Document 01, "Adding a point", "Completing": what is laid in the list, and the room that it takes.
use Rattle.std.specs.Prelude.{ℕ, ◌+◌, ◌<◌, ◌≤◌, List, length}
use Rattle.promise.specs.Laid.{lay}
use Rattle.words.specs.Commands.{max_count}
use Rattle.encoder.specs.Pushed.{count_word, close_word}

-- a run fits a list of that length, or is no run
pub record Fitting (at : ℕ) (run : List ℕ) (size : ℕ) : Type 0 where
  pub fits : 0 < length run → at + length run ≤ size

-- a part completed: the count at the last command's place, ClosePath behind the used words
abbrev pub lay_end : ℕ → ℕ → ℕ → ℕ → List ℕ → List ℕ
lay_end kind count place used l = lay used (close_word kind count) (lay place (count_word kind count) l)

-- what the caller asks for first: the count fits beside the id, and both words fit the list
pub record EndFits (kind count place used size : ℕ) : Type 0 where
  pub small : count ≤ max_count
  pub counted : Fitting place (count_word kind count) size
  pub closed : Fitting used (close_word kind count) size
