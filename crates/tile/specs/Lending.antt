-- The four lists of a layer as they are given to a step.
use Rattle.std.specs.Prelude.{ℕ, List}
use Rattle.layer.specs.Held.{Memory, mem}

abbrev pub given : List ℕ → List ℕ → List ℕ → List ℕ → Memory
given k v t f = mem k v t f
