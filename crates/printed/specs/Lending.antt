-- What a step that writes promises of the text lent to it, said once for every step.
use Rattle.std.specs.Prelude.{ℕ, ◌+◌, List, length}
use Rattle.promise.specs.Answers.{Written, Gives}
use Rattle.promise.specs.Laid.{lay}
use Rattle.promise.specs.Lent.{Lent}
use Rattle.printed.specs.Printed.{shown, Told}

-- bytes laid at a place of a text, and the place after them
abbrev pub appended : List ℕ → ℕ → List ℕ → Written ℕ (List ℕ)
appended bytes at text = record { answer = at + length bytes; memory = lay at bytes text }

abbrev pub Appends : List ℕ → ℕ → ℕ → Lent → Type 0
Appends bytes at r text = Gives (appended bytes at text.entry.now) r text.exit.now

-- bytes shown at the front of a text of that room, and how many they are
abbrev pub Shows : ℕ → List ℕ → ℕ → Lent → Type 0
Shows room bytes r text = Gives (shown room bytes text.entry.now) r text.exit.now

-- the text begins with these bytes, and r counts them
abbrev pub Tells : List ℕ → ℕ → Lent → Type 0
Tells bytes r text = Told bytes r text.exit.now
