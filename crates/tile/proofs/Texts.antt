-- Laws of a text as a field: a text that lies within the texts is the part of them that is lent.
use Prim.Native.Nat.{ℕ, ◌+◌, ◌-◌, ◌≤◌}
use mathlib.Core.Path.{◌≡◌, refl, ap, ◌∙◌}
use mathlib.Core.Bool.{true}
use mathlib.Core.List.{List}
use native.Mathlib.Omega.{arith}
use borrow.Author.Tests.{leb-true}
use lib.ListN.{length, take, drop, length-take, length-drop}
use borrow.Rule.Slice.PartMut.{mid_of}
use Rattle.wire.specs.declared.field.Field.{Field}
use Rattle.wire.specs.Fields.{delimited}
use Rattle.wire.proofs.Fields.{delimited_long, varint_field_short}
use Rattle.table.specs.Texts.{inside, text_of}
use Rattle.tile.specs.Texts.{text_field}

pub text_field_lem : (field : Field) (texts : List ℕ) (start len : ℕ) → text_field field texts start len ≡ delimited field (text_of texts start len)
unfolding text_field
text_field_lem field texts start len = refl

pub text_end : (texts : List ℕ) (start len : ℕ) → inside (length texts) start len ≡ true → start + len ≤ length texts
text_end texts start len e = leb-true (start + len) (length texts) e

-- what `&texts[start..start + len]` lends is the text
pub text_lent : (field : Field) (texts : List ℕ) (start len : ℕ) → text_field field texts start len ≡ delimited field (mid_of start (start + len - start) texts)
text_lent field texts start len = let z : start + len - start ≡ len = omega arith in text_field_lem field texts start len ∙ rw z

-- no more bytes than the texts have, and those of a head and a length
pub text_short : (field : Field) (texts : List ℕ) (start len : ℕ) → length (text_field field texts start len) ≤ 11 + length texts
text_short field texts start len =
    omega (arith, ap length (text_field_lem field texts start len), delimited_long field (text_of texts start len), varint_field_short field (length (text_of texts start len)), length-take len (drop start texts), length-drop start texts)
