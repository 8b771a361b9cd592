-- The calls by kind: what `add_tag` gives of a value, it gives of the content that the value is the halves of; and so of a content that is reckoned.
use Prim.Native.Nat.{ℕ}
use lib.IntN.{ℤ}
use mir.Syntax.{w64}
use mir.Val.{SFits, to_z, of_z}
use mir.Facts.{to_z-of_z}
use mathlib.Core.Path.{◌≡◌, ap, subst, ◌∙◌}
use mathlib.Core.List.{List, []}
use Rattle.promise.specs.Answers.{Gives}
use Rattle.refusal.specs.Said.{Said}
use Rattle.table.specs.declared.Value.{Value}
use Rattle.layer.specs.declared.Layer.{Layer}
use Rattle.layer.specs.Held.{Memory, seen, written}
use Rattle.layer.specs.Calls.{Tag, add_tag, value_of, bits_of, tag_bits}

module _ (kind : ℕ) (key : List ℕ) (s : Layer) (m : Memory) (r : Said Layer) (n : Memory) where
  abbrev Adds : Tag → Type 0
  Adds t = Gives (written (add_tag t (seen s m)) s m) r n

  pub tag_value : (bits : ℕ) (v : Value) → v ≡ value_of kind bits → Adds (record { key = key; value = v; text = [] }) → Adds (tag_bits kind key bits)
  tag_value bits v e g = subst (λ (x : Value). Adds (record { key = key; value = x; text = [] })) e g

  pub tag_bits_lem : (bits b : ℕ) → b ≡ bits → Adds (tag_bits kind key b) → Adds (tag_bits kind key bits)
  tag_bits_lem bits b e g = subst (λ (x : ℕ). Adds (tag_bits kind key x)) e g

  -- the bits of a whole number, as the machine holds it
  pub tag_signed : (x : ℤ) → SFits w64 x → (b : ℕ) → b ≡ bits_of (to_z w64 (of_z w64 x)) → Adds (tag_bits kind key b) → Adds (tag_bits kind key (bits_of x))
  tag_signed x f b e g = subst (λ (y : ℕ). Adds (tag_bits kind key y)) (e ∙ ap bits_of (to_z-of_z f)) g
