-- Document 01's number and values for each answer about a layer: a refusal has "its number, count zero and the given state". Creating a layer has no given
-- state, so a refusal there comes with none; an accepted question leaves the layer with its caller, so it comes with none either.
use Rattle.std.specs.Prelude.{ℕ, List, [], ◌∷◌}
use Rattle.refusal.specs.declared.Refusal.{Refusal}
use Rattle.refusal.specs.Said.{Said, accepted, refused}
use Rattle.table.specs.declared.Text.{Text}
use Rattle.layer.specs.declared.Layer.{Layer}
use Rattle.std.specs.Prelude.{Result, Ok, Err}
use Rattle.refusal.specs.declared.Refused.{Refused}

abbrev pub Changed : Type 0
Changed = Result Layer (Refused Layer)

abbrev pub said_changed : Changed → Said Layer
said_changed (Ok t) = accepted t
said_changed (Err e) = refused e.refusal e.kept

abbrev pub said_created : Result Layer Refusal → Said (List Layer)
said_created (Ok t) = accepted (t ∷ [])
said_created (Err r) = refused r []

-- what a question tells, and the layer that a refusal gives back
pub record Told (X : Type 0) : Type 0 where
  pub told : X
  pub given : List Layer

abbrev pub tells : {X : Type 0} → X → Said (Told X)
tells x = accepted (record { told = x; given = [] })

abbrev pub tells_not : {X : Type 0} → Refusal → X → Layer → Said (Told X)
tells_not r x s = refused r (record { told = x; given = s ∷ [] })

abbrev pub said_counted : Result ℕ (Refused Layer) → Said (Told ℕ)
said_counted (Ok n) = tells n
said_counted (Err e) = tells_not e.refusal 0 e.kept

-- the name's place, or none
abbrev pub said_named : Result Text (Refused Layer) → Said (Told (List Text))
said_named (Ok t) = tells (t ∷ [])
said_named (Err e) = tells_not e.refusal [] e.kept
