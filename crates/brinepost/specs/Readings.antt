-- A reading's answer as three numbers: the refusal's number, the vertices, 0 where it is refused, and the refusal's place, 0 where it has none.
use Rattle.std.specs.Prelude.{ℕ}
use Rattle.refusal.specs.Said.{Said}
use Rattle.brinepost.specs.declared.vertices.BpReading.{BpReading}

unfoldable pub flat_reading : Said ℕ → BpReading
flat_reading a = record { refusal = a.number; vertices = a.values; place = a.place }
