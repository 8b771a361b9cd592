-- Each kind of value has its own call, whose promise is the definition's case.
use mathlib.Core.Path.{◌≡◌, ◌∙◌, ap, sym}
use mathlib.Core.List.{List}
use Prim.Native.Nat.{ℕ}
use lib.IntN.{ℤ}
use mir.Syntax.{w64}
use mir.Val.{to_z, of_z}
use mir.Facts.{to_z-of_z}
use Rattle.layer.specs.Calls.{bits_of, tag_string, tag_bits}
use Rattle.script.specs.declared.Value.{Value}
use Rattle.tile_run.specs.Hands.{tag_of}
use Rattle.tile_run.proofs.Handling.{tag_by}
use borrow.Author.Rules.{rules}
use Rattle.tile_run.proofs.hand.tag_layer.Goals as goal
use Rattle.tile_run.proofs.hand.tag_layer.Tie as tie
use Rattle.tile_run.proofs.hand.tag_layer.Reads as contract
use Rattle.tile_run.proofs.hand.tag_layer.Lts as places

-- the places on the way that the lemmas below speak of
abbrev Start : Type 0
Start = places.Start tie.the-claims contract.Pre contract.Post

abbrev In-Int : Type 0
In-Int = places.Past-After-known_told4 tie.the-claims contract.Pre contract.Post

abbrev In-Sint : Type 0
In-Sint = places.Past-After-known_told6 tie.the-claims contract.Pre contract.Post

abbrev key : Start → List ℕ
key s = s.args.key.now

-- the tag of the value that a case has
cased : (s : Start) {v : Value} → s.args.v ≡ v → tag_of s.args.bytes.now (key s) s.args.v ≡ tag_of s.args.bytes.now (key s) v
cased s e = ap (tag_of s.args.bytes.now (key s)) e

-- a signed value is tagged as it is read back, and is read back as it was given
signed : (s : Start) (n : ℕ) {x y : ℤ} → x ≡ y → tag_bits n (key s) (bits_of y) ≡ tag_bits n (key s) (bits_of x)
signed s n e = ap (λ (z : ℤ). tag_bits n (key s) (bits_of z)) (sym e)

int_same : (k : In-Int) → to_z w64 (of_z w64 k.in-Int.x) ≡ k.in-Int.x
int_same k = to_z-of_z {w = w64} (search rules)

sint_same : (k : In-Sint) → to_z w64 (of_z w64 k.in-Sint.x) ≡ k.in-Sint.x
sint_same k = to_z-of_z {w = w64} (search rules)

pub returns-in-Text : goal.returns-in-Text
returns-in-Text c =
    tag_by _ _ _ _ _ _ (cased c.before.before.before.before.before.before.before.before.before.before.before.before.before.before.before.before.before.before.before.before.before.before c.in-Text.is ∙ ap (tag_string (key c.before.before.before.before.before.before.before.before.before.before.before.before.before.before.before.before.before.before.before.before.before.before)) (sym c.text-text.ensures)) c.add_tag_string.ensures

pub returns-in-Float : goal.returns-in-Float
returns-in-Float c =
    tag_by _ _ _ _ _ _ (cased c.before.before.before.before.before.before.before.before.before.before.before.before.before.before.before.before.before.before.before.before.before c.in-Float.is) c.add_tag_float.ensures

pub returns-in-Double : goal.returns-in-Double
returns-in-Double c =
    tag_by _ _ _ _ _ _ (cased c.before.before.before.before.before.before.before.before.before.before.before.before.before.before.before.before.before.before.before.before.before c.in-Double.is) c.add_tag_double.ensures

pub returns-in-Int : goal.returns-in-Int
returns-in-Int c =
    tag_by _ _ _ _ _ _ (cased c.before.before.before.before.before.before.before.before.before.before.before.before.before.before.before.before.before.before.before.before.before c.in-Int.is ∙ signed c.before.before.before.before.before.before.before.before.before.before.before.before.before.before.before.before.before.before.before.before.before 4 (int_same c.before.before.before.before.before.before.before.before.before.before.before.before.before.before)) c.add_tag_int.ensures

pub returns-in-Uint : goal.returns-in-Uint
returns-in-Uint c =
    tag_by _ _ _ _ _ _ (cased c.before.before.before.before.before.before.before.before.before.before.before.before.before.before.before.before.before.before.before.before.before c.in-Uint.is) c.add_tag_uint.ensures

pub returns-in-Sint : goal.returns-in-Sint
returns-in-Sint c =
    tag_by _ _ _ _ _ _ (cased c.before.before.before.before.before.before.before.before.before.before.before.before.before.before.before.before.before.before.before.before.before c.in-Sint.is ∙ signed c.before.before.before.before.before.before.before.before.before.before.before.before.before.before.before.before.before.before.before.before.before 6 (sint_same c.before.before.before.before.before.before.before.before.before.before.before.before.before.before)) c.add_tag_sint.ensures

pub returns-in-Bool : goal.returns-in-Bool
returns-in-Bool c =
    tag_by _ _ _ _ _ _ (cased c.before.before.before.before.before.before.before.before.before.before.before.before.before.before.before.before.before.before.before.before.before c.in-Bool.is) c.add_tag_bool.ensures
