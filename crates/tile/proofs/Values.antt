-- Laws of a value's message: which field it is, kind by kind, and how long it is at most.
use Prim.Native.Nat.{ℕ, ◌+◌, ◌≤◌}
use mathlib.Core.Path.{◌≡◌}
use mathlib.Core.Bool.{Bool, true, false, cond}
use mathlib.Core.List.{List}
use native.Mathlib.Omega.{arith}
use borrow.Author.Tests.{ne_eqb}
use lib.Dec.{eqb}
use lib.ListN.{length}
use Rattle.wire.specs.declared.field.ValueKind.TheVariants.{Text, Float, Double, Int, Uint, Sint, Bool as Truth}
use Rattle.wire.specs.declared.field.Field.TheVariants.{Value}
use Rattle.whole.specs.Twos.{wide}
use Rattle.wire.specs.Numbers.{zigzag}
use Rattle.wire.specs.Fields.{varint_field, fixed32_field, fixed64_field}
use Rattle.wire.proofs.Fields.{varint_field_short, fixed32_field_long, fixed64_field_long}
use Rattle.table.specs.Texts.{inside}
use Rattle.table.specs.Values.{value_ok}
use Rattle.tile.specs.Texts.{text_field}
use Rattle.tile.specs.Values.{value_message}
use Rattle.tile.proofs.Texts.{text_short}

-- a text lies within the texts
pub text_inside : (bytes kind low high : ℕ) → kind ≡ 1 → value_ok bytes kind low high ≡ true → inside bytes low high ≡ true
text_inside bytes kind low high h e = rw h at e

module _ (texts : List ℕ) (kind low high : ℕ) where
  pub is_text : kind ≡ 1 → value_message texts kind low high ≡ text_field (Value Text) texts low high
  unfolding value_message
  is_text h = rw h

  pub is_float : kind ≡ 2 → value_message texts kind low high ≡ fixed32_field (Value Float) low
  unfolding value_message
  is_float h = rw h

  pub is_bool : (kind ≡ 1 → ⊥) → (kind ≡ 2 → ⊥) → (kind ≡ 3 → ⊥) → (kind ≡ 4 → ⊥) → (kind ≡ 5 → ⊥) → (kind ≡ 6 → ⊥) → value_message texts kind low high ≡ varint_field (Value Truth) low
  unfolding value_message
  is_bool h1 h2 h3 h4 h5 h6 = rw (ne_eqb kind 1 h1, ne_eqb kind 2 h2, ne_eqb kind 3 h3, ne_eqb kind 4 h4, ne_eqb kind 5 h5, ne_eqb kind 6 h6)

  -- the content's 64 bits, put together
  module _ (bits : ℕ) (w : bits ≡ wide low high) where
    pub is_double : kind ≡ 3 → value_message texts kind low high ≡ fixed64_field (Value Double) bits
    unfolding value_message
    is_double h = rw (h, w)

    pub is_int : kind ≡ 4 → value_message texts kind low high ≡ varint_field (Value Int) bits
    unfolding value_message
    is_int h = rw (h, w)

    pub is_uint : kind ≡ 5 → value_message texts kind low high ≡ varint_field (Value Uint) bits
    unfolding value_message
    is_uint h = rw (h, w)

    pub is_sint : kind ≡ 6 → (z : ℕ) → z ≡ zigzag bits → value_message texts kind low high ≡ varint_field (Value Sint) z
    unfolding value_message
    is_sint h z e = rw (h, e, w)

  pub value_short : length (value_message texts kind low high) ≤ 11 + length texts
  unfolding value_message
  value_short =
      by (eqb kind 1) _ _ (text_short (Value Text) texts low high)
      (by (eqb kind 2) _ _ (omega (arith, fixed32_field_long (Value Float) low))
      (by (eqb kind 3) _ _ (omega (arith, fixed64_field_long (Value Double) (wide low high)))
      (by (eqb kind 4) _ _ (omega (arith, varint_field_short (Value Int) (wide low high)))
      (by (eqb kind 5) _ _ (omega (arith, varint_field_short (Value Uint) (wide low high)))
      (by (eqb kind 6) _ _ (omega (arith, varint_field_short (Value Sint) (zigzag (wide low high)))) (omega (arith, varint_field_short (Value Truth) low)))))))
    where
      by : (b : Bool) (x y : List ℕ) → length x ≤ 11 + length texts → length y ≤ 11 + length texts → length (cond b x y) ≤ 11 + length texts
      by true x y h k = h
      by false x y h k = k
