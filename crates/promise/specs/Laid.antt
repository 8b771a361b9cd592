-- A run of elements laid at a place of a list: what stands before it and what stands after it is as it was.
use Rattle.std.specs.Prelude.{ℕ, ◌+◌, List, ◌++◌, length, take, drop}

abbrev pub lay : {E : Type 0} → ℕ → List E → List E → List E
lay at run l = take at l ++ run ++ drop (at + length run) l
