-- The place that is told of a tile, by its verdict.
use Rattle.std.specs.Prelude.{ℕ, List, length}
use Rattle.messages.specs.Tiles.{Verdict, good, fault}

abbrev pub place_in : List ℕ → Verdict → ℕ
place_in src good = length src
place_in src (fault place) = place
