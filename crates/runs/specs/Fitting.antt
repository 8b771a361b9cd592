-- A run laid at a place of a list where it fits; where it does not, the list stays as it was.
use Rattle.std.specs.Prelude.{ℕ, ◌+◌, cond, List, length, leb}
use Rattle.promise.specs.Laid.{lay}

abbrev pub laid_in : {E : Type 0} → ℕ → List E → List E → List E
laid_in at run l = cond (leb (at + length run) (length l)) (lay at run l) l
