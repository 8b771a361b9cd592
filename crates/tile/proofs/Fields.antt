-- The name of a layer that breaks no rule of STATE, and where it stands in the layer's field.
use Prim.Native.Nat.{ℕ, ◌+◌, ◌≤◌}
use mathlib.Core.Path.{◌≡◌, ap, ◌∙◌}
use mathlib.Core.Bool.{true}
use mathlib.Core.List.{List}
use native.Mathlib.Omega.{arith}
use lib.ListN.{length, take, drop}
use lib.Seq.{take-take, length-take-le}
use borrow.Author.Tests.{leb-true}
use Rattle.layer.specs.declared.Layer.{Layer}
use Rattle.layer.specs.Held.{mem, seen}
use Rattle.layer.specs.State.{valid}
use Rattle.layer.proofs.Standing.{parts, valid_fit}
use Rattle.tile.specs.Layers.{layer_field, name_at}
use Rattle.tile.proofs.Layers.{name_there, name_upto}
use Rattle.tile.specs.Adding.{name_text}

module _ (s : Layer) (ks vs ts fs : List ℕ) (ok : valid (seen s (mem ks vs ts fs)) ≡ true) where
  name_used : s.name ≤ s.used.texts
  name_used = leb-true s.name s.used.texts (parts (seen s (mem ks vs ts fs)) ok).name

  pub name_in : s.name ≤ length ts
  name_in = omega (arith, name_used, (valid_fit s ks vs ts fs ok).in_texts)

  pub name_is : name_text (seen s (mem ks vs ts fs)) ≡ take s.name ts
  name_is = take-take s.name s.used.texts ts name_used

  pub name_long : length (name_text (seen s (mem ks vs ts fs))) ≡ s.name
  name_long = ap length name_is ∙ length-take-le s.name ts name_in

  pub name_stands : take s.name (drop (name_at (seen s (mem ks vs ts fs))) (layer_field (seen s (mem ks vs ts fs)))) ≡ name_text (seen s (mem ks vs ts fs))
  name_stands = name_there (seen s (mem ks vs ts fs)) name_long

  pub name_within : name_at (seen s (mem ks vs ts fs)) + s.name ≤ length (layer_field (seen s (mem ks vs ts fs)))
  name_within = name_upto (seen s (mem ks vs ts fs)) name_long
