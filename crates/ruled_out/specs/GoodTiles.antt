-- Crate `messages`: wrong rules of a good tile. A wrong clause of a definition is said as the equation that the definition would meet if it had that clause.
use Rattle.std.specs.Prelude.{ℕ, ◌≡◌, refl, true, List, [], ◌∷◌, ◌++◌, length}
use Rattle.std.proofs.Common.{ap, arith}
use Rattle.wire.specs.Reading.{good, read_varint}
use Rattle.wire.specs.Schema.{fixed64_type}
use Rattle.messages.specs.declared.key.Holds.TheVariants.{Eight as eight}
use Rattle.messages.specs.declared.key.Follows.{Follows}
use Rattle.messages.specs.declared.key.Follows.TheVariants.{Wrong as wrong, AVarint as aVarint, Bytes as bytes, ABody as aBody}
use Rattle.messages.specs.Keys.{only, content as content_of, follows}
use Rattle.messages.specs.Fields.{varint_at, content, field_at, fields_by, fields_from, numbers_by, numbers_from}
use Rattle.messages.specs.Tiles.{nested, is_good}
use Rattle.ruled_out.specs.Inputs.{bit}

-- how many bytes follow a key
abbrev bytes_of : Follows → ℕ
bytes_of wrong = 0
bytes_of aVarint = 0
bytes_of (bytes n) = n
bytes_of (aBody body) = 0

-- a double of four bytes
pub double_of_four : ((type : ℕ) → content_of eight type ≡ only fixed64_type type (bytes 4)) → ⊥
double_of_four h = let e : ◌≡◌ {A = ℕ} 8 4 = ap bytes_of (h 1) in omega arith

-- a length that counts itself
pub length_of_all : ((lead body : List ℕ) → read_varint lead ≡ good (length (lead ++ body)) (length lead) → is_good (26 ∷ (lead ++ body)) ≡ true) → ⊥
unfolding read_varint follows varint_at content field_at fields_by fields_from numbers_by numbers_from nested is_good
length_of_all h = let e : ◌≡◌ {A = ℕ} 0 1 = ap bit (h (1 ∷ []) [] refl) in omega arith

-- a field of the number 0
pub number_nought : ((n : ℕ) → is_good (0 ∷ n ∷ []) ≡ true) → ⊥
unfolding read_varint follows varint_at content field_at fields_by fields_from numbers_by numbers_from nested is_good
number_nought h = let e : ◌≡◌ {A = ℕ} 0 1 = ap bit (h 0) in omega arith

-- a layer that is a number and no message: a field that MVT knows, of another type, is passed over as one that it does not know
pub known_passed_over : ((n : ℕ) → is_good (24 ∷ n ∷ []) ≡ true) → ⊥
unfolding read_varint follows varint_at content field_at fields_by fields_from numbers_by numbers_from nested is_good
known_passed_over h = let e : ◌≡◌ {A = ℕ} 0 1 = ap bit (h 0) in omega arith

-- a packed list whose last number is cut
pub packed_cut : ((b : ℕ) → is_good (26 ∷ 5 ∷ 18 ∷ 3 ∷ 34 ∷ 1 ∷ b ∷ []) ≡ true) → ⊥
unfolding read_varint follows varint_at content field_at fields_by fields_from numbers_by numbers_from nested is_good
packed_cut h = let e : ◌≡◌ {A = ℕ} 0 1 = ap bit (h 128) in omega arith
