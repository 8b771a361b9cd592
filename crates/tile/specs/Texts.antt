-- A text of a layer as a field.
use Rattle.std.specs.Prelude.{ℕ, List}
use Rattle.wire.specs.declared.field.Field.{Field}
use Rattle.wire.specs.Fields.{delimited}
use Rattle.table.specs.Texts.{text_of}

unfoldable pub text_field : Field → List ℕ → ℕ → ℕ → List ℕ
text_field field texts start len = delimited field (text_of texts start len)
