-- Document 01's number and values for each answer of a tile's calls: the tile after the call, or "its number, count zero and the given state".
use Rattle.std.specs.Prelude.{ℕ, Result, Ok, Err, List, [], ◌∷◌}
use Rattle.refusal.specs.declared.Refusal.{Refusal}
use Rattle.refusal.specs.declared.Refused.{Refused}
use Rattle.refusal.specs.Said.{Said, accepted, refused}
use Rattle.tile.specs.declared.Tile.{Tile}

abbrev pub said_tile : Result Tile (Refused Tile) → Said Tile
said_tile (Ok t) = accepted t
said_tile (Err e) = refused e.refusal e.kept

-- what a question tells, and the tile that a refusal gives back; an accepted question leaves the tile with its caller
pub record Told : Type 0 where
  pub told : ℕ
  pub given : List Tile

abbrev pub tells : ℕ → Said Told
tells n = accepted (record { told = n; given = [] })

abbrev pub tells_not : Refusal → Tile → Said Told
tells_not r t = refused r (record { told = 0; given = t ∷ [] })

abbrev pub said_counted : Result ℕ (Refused Tile) → Said Told
said_counted (Ok n) = tells n
said_counted (Err e) = tells_not e.refusal e.kept
