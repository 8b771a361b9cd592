-- Crate `wire`: wrong varints, keys and fields. A wrong clause of a definition by recursion is
-- said as the equation that the definition would meet if it had that clause.
use Rattle.std.specs.Prelude.{ℕ, suc, ◌+◌, ◌-◌, ◌*◌, ◌/◌, ◌%◌, ◌≡◌, cond, List, [], ◌∷◌, ◌++◌, leb, ltb, eqb, length, take}
use Rattle.std.proofs.Common.{ap, arith}
use Rattle.promise.specs.Answers.{kept}
use Rattle.promise.specs.Laid.{lay}
use Rattle.whole.specs.Twos.{signed32}
use Rattle.words.specs.Params.{param}
use Rattle.wire.specs.Varints.{varint_of, varint}
use Rattle.promise.specs.Puts.{put}
use Rattle.wire.specs.Numbers.{little, fixed32, fixed64, zigzag}
use Rattle.wire.specs.Reading.{good, behind, read_of, read_varint}
use Rattle.wire.specs.declared.field.ValueKind.TheVariants.{Text, Float, Double}
use Rattle.wire.specs.declared.field.Field.{Field}
use Rattle.wire.specs.declared.field.Field.TheVariants.{LayerName, LayerExtent, LayerVersion, FeatureTags}
use Rattle.wire.specs.declared.field.Field.TheVariants.{Value}
use Rattle.wire.specs.Schema.{varint_type, kind_number, kind_type, number_of, type_of, key_of, head}
use Rattle.wire.specs.Fields.{varint_field, fixed32_field, fixed64_field, delimited, varints, packed_field}
use Rattle.ruled_out.specs.Inputs.{item, read_bytes}

-- the largest number of 64 bits
abbrev largest : ℕ
largest = 18446744073709551615

-- ---- varint_size
-- 128 takes one byte
pub ladder_one_off : ((n : ℕ) → length (varint n) ≡ cond (leb n 128) 1 (length (varint n))) → ⊥
unfolding varint
ladder_one_off h = let e : ◌≡◌ {A = ℕ} 2 1 = h 128 in omega arith

-- zero takes no byte
pub nought_takes_none : ((n : ℕ) → length (varint n) ≡ cond (eqb n 0) 0 (length (varint n))) → ⊥
unfolding varint
nought_takes_none h = let e : ◌≡◌ {A = ℕ} 1 0 = h 0 in omega arith

-- ---- put_varint
-- five bytes at most, so that an int below zero loses bits
pub five_bytes : ((n : ℕ) → varint n ≡ varint_of 4 n) → ⊥
unfolding varint
five_bytes h = let e : ◌≡◌ {A = ℕ} 10 5 = ap length (h largest) in omega arith

-- the most significant group first
pub high_groups_first : ((more n : ℕ) → varint_of (suc more) n ≡ cond (ltb n 128) (n ∷ []) ((n / 128 + 128) ∷ varint_of more (n % 128))) → ⊥
high_groups_first h = let e : ◌≡◌ {A = ℕ} 128 129 = ap (item 0) (h 8 128) in omega arith

-- the mark on the last byte
pub mark_on_last : ((more n : ℕ) → varint_of (suc more) n ≡ cond (ltb n 128) ((n + 128) ∷ []) ((n % 128 + 128) ∷ varint_of more (n / 128))) → ⊥
mark_on_last h = let e : ◌≡◌ {A = ℕ} 1 129 = ap (item 0) (h 8 1) in omega arith

-- ---- every writer
-- from the second place on
pub behind_the_front : ((bytes out : List ℕ)
    → put bytes out ≡ cond (leb (length bytes) (length out)) (record { answer = length bytes; memory = lay 1 bytes out }) (kept 0 out)) → ⊥
unfolding put
behind_the_front h = let e : ◌≡◌ {A = ℕ} 7 0 = ap (λ w. item 0 w.memory) (h (7 ∷ []) (0 ∷ 0 ∷ [])) in omega arith

-- a refused writer answers a count
pub refusal_counts : ((bytes out : List ℕ)
    → put bytes out ≡ cond (leb (length bytes) (length out)) (record { answer = length bytes; memory = lay 0 bytes out }) (kept 1 out)) → ⊥
unfolding put
refusal_counts h = let e : ◌≡◌ {A = ℕ} 0 1 = ap (λ w. w.answer) (h (7 ∷ []) []) in omega arith

-- a refused writer writes what fits
pub half_written : ((bytes out : List ℕ) → (put bytes out).memory ≡ take (length out) (lay 0 bytes out)) → ⊥
unfolding put
half_written h = let e : ◌≡◌ {A = ℕ} 0 7 = ap (item 0) (h (7 ∷ 8 ∷ []) (0 ∷ [])) in omega arith

-- ---- zigzag
-- a sint without zigzag
pub sint_as_int : ((bits : ℕ) → zigzag bits ≡ bits) → ⊥
unfolding zigzag param
sint_as_int h = let e : ◌≡◌ {A = ℕ} 2 1 = h 1 in omega arith

-- a sint of 32 bits
pub sint_of_32_bits : ((bits : ℕ) → zigzag bits ≡ param (signed32 bits)) → ⊥
unfolding zigzag param
sint_of_32_bits h = let e : ◌≡◌ {A = ℕ} 8589934590 1 = h 4294967295 in omega arith

-- ---- reading a varint
-- 65 bits are taken
pub sixty_five_bits : ((bytes : List ℕ) → read_varint bytes ≡ read_of 4 9 bytes) → ⊥
unfolding read_varint
sixty_five_bits h =
    let e : ◌≡◌ {A = ℕ} 0 10 = ap read_bytes (h (128 ∷ 128 ∷ 128 ∷ 128 ∷ 128 ∷ 128 ∷ 128 ∷ 128 ∷ 128 ∷ 2 ∷ [])) in omega arith

-- one byte at most
pub one_byte_read : ((bytes : List ℕ) → read_varint bytes ≡ read_of 128 0 bytes) → ⊥
unfolding read_varint
one_byte_read h = let e : ◌≡◌ {A = ℕ} 2 0 = ap read_bytes (h (150 ∷ 1 ∷ [])) in omega arith

-- a byte that is not counted
pub byte_uncounted : ((low n count : ℕ) → behind low (good n count) ≡ good (low + 128 * n) count) → ⊥
byte_uncounted h = let e : ◌≡◌ {A = ℕ} 2 1 = ap read_bytes (h 22 1 1) in omega arith

-- ---- field numbers, wire types and keys
-- the version is field 14
pub version_fourteen : number_of LayerVersion ≡ 14 → ⊥
version_fourteen h = omega arith

-- the tags are field 3
pub tags_as_type : number_of FeatureTags ≡ 3 → ⊥
tags_as_type h = omega arith

-- a float is field 3
pub float_as_double : kind_number Float ≡ 3 → ⊥
float_as_double h = omega arith

-- a text is a varint
pub text_as_varint : kind_type Text ≡ varint_type → ⊥
text_as_varint h = omega arith

-- a key of 4 × number
pub key_of_four : ((field : Field) → key_of field ≡ 4 * number_of field + type_of field) → ⊥
key_of_four h = let e : ◌≡◌ {A = ℕ} 40 20 = h LayerExtent in omega arith

-- the wire type above the number
pub key_turned : ((field : Field) → key_of field ≡ 8 * type_of field + number_of field) → ⊥
key_turned h = let e : ◌≡◌ {A = ℕ} 40 5 = h LayerExtent in omega arith

-- ---- heads and fields
-- a field without its head
pub head_left_out : ((field : Field) (n : ℕ) → varint_field field n ≡ varint n) → ⊥
unfolding varint_field head varint
head_left_out h = let e : ◌≡◌ {A = ℕ} 40 1 = ap (item 0) (h LayerExtent 1) in omega arith

-- a head of the number alone
pub head_of_number : ((field : Field) → head field ≡ varint (number_of field)) → ⊥
unfolding head varint
head_of_number h = let e : ◌≡◌ {A = ℕ} 40 5 = ap (item 0) (h LayerExtent) in omega arith

-- a length one short
pub length_one_short : ((field : Field) (body : List ℕ) → delimited field body ≡ varint_field field (length body - 1) ++ body) → ⊥
unfolding delimited varint_field head varint
length_one_short h = let e : ◌≡◌ {A = ℕ} 1 0 = ap (item 1) (h LayerName (97 ∷ [])) in omega arith

-- a length that counts the head too
pub length_with_head : ((field : Field) (body : List ℕ) → delimited field body ≡ varint_field field (length (head field ++ body)) ++ body) → ⊥
unfolding delimited varint_field head varint
length_with_head h = let e : ◌≡◌ {A = ℕ} 1 2 = ap (item 1) (h LayerName (97 ∷ [])) in omega arith

-- bytes without their length
pub bytes_without_length : ((field : Field) (body : List ℕ) → delimited field body ≡ head field ++ body) → ⊥
unfolding delimited varint_field head varint
bytes_without_length h = let e : ◌≡◌ {A = ℕ} 1 97 = ap (item 1) (h LayerName (97 ∷ [])) in omega arith

-- a float with its most significant byte first
pub float_reversed : ((n : ℕ) → fixed32 n ≡ n / 16777216 % 256 ∷ n / 65536 % 256 ∷ n / 256 % 256 ∷ n % 256 ∷ []) → ⊥
unfolding fixed32
float_reversed h = let e : ◌≡◌ {A = ℕ} 0 63 = ap (item 0) (h 1065353216) in omega arith

-- a float as a varint
pub float_as_varint : ((field : Field) (n : ℕ) → fixed32_field field n ≡ varint_field field n) → ⊥
unfolding fixed32_field fixed32 varint_field head varint
float_as_varint h = let e : ◌≡◌ {A = ℕ} 5 2 = ap length (h (Value Float) 1) in omega arith

-- a double of four bytes
pub double_of_four : ((n : ℕ) → fixed64 n ≡ little 4 n) → ⊥
unfolding fixed64
double_of_four h = let e : ◌≡◌ {A = ℕ} 8 4 = ap length (h 0) in omega arith

-- a double of its low half
pub double_low_half : ((field : Field) (n : ℕ) → fixed64_field field n ≡ head field ++ fixed64 (n % 4294967296)) → ⊥
unfolding fixed64_field fixed64 head varint
double_low_half h = let e : ◌≡◌ {A = ℕ} 1 0 = ap (item 5) (h (Value Double) 4294967296) in omega arith

-- ---- packed lists
-- an empty list is written
pub empty_list_written : ((field : Field) → packed_field field [] ≡ delimited field []) → ⊥
unfolding delimited varint_field head varint
empty_list_written h = let e : ◌≡◌ {A = ℕ} 0 2 = ap length (h FeatureTags) in omega arith

-- the numbers are counted, and not their bytes
pub words_for_bytes : ((field : Field) (n : ℕ) (ns : List ℕ) → packed_field field (n ∷ ns) ≡ varint_field field (length (n ∷ ns)) ++ varints (n ∷ ns)) → ⊥
unfolding delimited varint_field head varint
words_for_bytes h = let e : ◌≡◌ {A = ℕ} 2 1 = ap (item 1) (h FeatureTags 200 []) in omega arith

-- each number a field of its own
pub list_unpacked : ((field : Field) (n : ℕ) (ns : List ℕ) → packed_field field (n ∷ ns) ≡ varint_field field n ++ packed_field field ns) → ⊥
unfolding delimited varint_field head varint
list_unpacked h = let e : ◌≡◌ {A = ℕ} 3 2 = ap length (h FeatureTags 1 []) in omega arith

-- the numbers from the last to the first
pub varints_backwards : ((n : ℕ) (ns : List ℕ) → varints (n ∷ ns) ≡ varints ns ++ varint n) → ⊥
unfolding varint
varints_backwards h = let e : ◌≡◌ {A = ℕ} 1 2 = ap (item 0) (h 1 (2 ∷ [])) in omega arith
