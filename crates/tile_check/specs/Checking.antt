-- Request (i), the check of a whole tile: good with the number of its layers, or WIRE with the place of its fault.
use Rattle.std.specs.Prelude.{ℕ, List, length, Result, Ok, Err}
use Rattle.refusal.specs.declared.Fault.{Fault}
use Rattle.refusal.specs.declared.Refusal.TheVariants.{Wire}
use Rattle.refusal.specs.Said.{placed}
use Rattle.messages.specs.Tiles.{Verdict, good, fault}
use Rattle.messages.specs.Meaning.{layer_fields}

abbrev pub checked : List ℕ → Verdict → Result ℕ Fault
checked src good = Ok (length (layer_fields src))
checked src (fault place) = Err (placed Wire place)
