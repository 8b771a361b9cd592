-- PB, "Message Structure" and its reference card: a message is fields one after the other, each a key and a content. The key is 8 × field number + wire
-- type, as a varint, and no field has the number 0. The content is a varint (type 0), eight bytes (1), a length and so many bytes (2) or four bytes (5).
-- Keys, numbers and lengths are whatever reading a varint gives.
use Rattle.std.specs.Prelude.{ℕ, ◌/◌, ◌%◌, ◌<◌, ◌≡◌, cond, List, [], ◌++◌, eqb, length}
use Rattle.wire.specs.declared.field.Field.TheVariants.{TileLayer, LayerFeature, LayerValue}
use Rattle.wire.specs.Schema.{number_of, varint_type, fixed64_type, delimited_type, fixed32_type}
use Rattle.wire.specs.Reading.{read_varint, good}

-- MVT's messages, and which fields of which of them hold messages
pub data Kind : Type 0 where
  tile : Kind
  layer : Kind
  feature : Kind
  value : Kind

pub data Inside : Type 0 where
  plain : Inside
  message : Kind → Inside

abbrev pub inside : Kind → ℕ → Inside
inside tile number = cond (eqb number (number_of TileLayer)) (message layer) plain
inside layer number = cond (eqb number (number_of LayerFeature)) (message feature) (cond (eqb number (number_of LayerValue)) (message value) plain)
inside feature number = plain
inside value number = plain

-- these bytes, all of them, are a varint of n
abbrev pub Reads : List ℕ → ℕ → Type 0
Reads bytes n = read_varint bytes ≡ good n (length bytes)

-- a content by its wire type
pub data Content : ℕ → List ℕ → Type 0 where
  number : (n : ℕ) (bytes : List ℕ) → Reads bytes n → Content varint_type bytes
  eight : (bytes : List ℕ) → length bytes ≡ 8 → Content fixed64_type bytes
  body : (lead bytes : List ℕ) → Reads lead (length bytes) → Content delimited_type (lead ++ bytes)
  four : (bytes : List ℕ) → length bytes ≡ 4 → Content fixed32_type bytes

-- a message of that kind: a field that holds a message has a length, and within it exactly such a message
pub data WellFormed : Kind → List ℕ → Type 0 where
  end : (kind : Kind) → WellFormed kind []
  field : (kind : Kind) (key : ℕ) (head content rest : List ℕ) → Reads head key → 0 < key / 8 → inside kind (key / 8) ≡ plain
      → Content (key % 8) content → WellFormed kind rest → WellFormed kind (head ++ (content ++ rest))
  nested : (kind within : Kind) (key : ℕ) (head lead bytes rest : List ℕ) → Reads head key → 0 < key / 8 → inside kind (key / 8) ≡ message within
      → key % 8 ≡ delimited_type → Reads lead (length bytes) → WellFormed within bytes → WellFormed kind rest
      → WellFormed kind (head ++ ((lead ++ bytes) ++ rest))
