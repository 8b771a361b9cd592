-- PB, "Message Structure": a field is its head and its content, by the wire type.
use Rattle.std.specs.Prelude.{ℕ, ◌≡◌, refl, List, [], ◌∷◌, ◌++◌, length}
use Rattle.wire.specs.declared.field.Field.{Field}
use Rattle.wire.specs.declared.field.Field.TheVariants.{TileLayer, LayerName, LayerExtent, LayerVersion}
use Rattle.wire.specs.Varints.{varint}
use Rattle.wire.specs.Numbers.{fixed32, fixed64}
use Rattle.wire.specs.Schema.{head}

-- a number as a varint. Of a delimited field this is what stands before its body: the number is the body's length
unfoldable pub varint_field : Field → ℕ → List ℕ
varint_field field n = head field ++ varint n

unfoldable pub fixed32_field : Field → ℕ → List ℕ
fixed32_field field n = head field ++ fixed32 n

unfoldable pub fixed64_field : Field → ℕ → List ℕ
fixed64_field field n = head field ++ fixed64 n

-- a text, a message or a packed list: the body's length, then the body
unfoldable pub delimited : Field → List ℕ → List ℕ
delimited field body = varint_field field (length body) ++ body

-- numbers as varints, one after the other
abbrev pub varints : List ℕ → List ℕ
varints [] = []
varints (n ∷ ns) = varint n ++ varints ns

-- "empty packed lists never"
abbrev pub packed_field : Field → List ℕ → List ℕ
packed_field field [] = []
packed_field field (n ∷ ns) = delimited field (varints (n ∷ ns))

-- ---- document 01's tile: extent 4096, layer "a" without features
pub empty_layer_lem : delimited TileLayer (delimited LayerName (97 ∷ []) ++ varint_field LayerExtent 4096 ++ varint_field LayerVersion 2)
    ≡ 26 ∷ 8 ∷ 10 ∷ 1 ∷ 97 ∷ 40 ∷ 128 ∷ 32 ∷ 120 ∷ 2 ∷ []
unfolding delimited varint_field head varint
empty_layer_lem = refl
