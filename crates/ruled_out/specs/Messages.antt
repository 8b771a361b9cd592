-- Crate `well_formed`: wrong rules of PB's messages. Each is a way to make a content that PB's rules do not have.
use Rattle.std.specs.Prelude.{ℕ, suc, ◌≡◌, refl, List, [], ◌∷◌, ◌++◌, length}
use Rattle.std.proofs.Common.{ap, arith}
use Rattle.wire.specs.Reading.{VarintRead, good, cut, over, read_varint}
use Rattle.wire.specs.Schema.{fixed64_type, delimited_type}
use Rattle.well_formed.specs.Messages.{Reads, Content, number, eight, body, four}
use Rattle.ruled_out.specs.Inputs.{item}

-- a content of wire type 1 has eight bytes
eight_long : {t : ℕ} {bytes : List ℕ} → Content t bytes → t ≡ 1 → length bytes ≡ 8
eight_long (number n bytes r) h = omega arith
eight_long (eight bytes e) h = e
eight_long (body lead bytes r) h = omega arith
eight_long (four bytes e) h = omega arith

-- a content of eight bytes that has four
pub double_of_four : ((bytes : List ℕ) → length bytes ≡ 4 → Content fixed64_type bytes) → ⊥
double_of_four h = let e : ◌≡◌ {A = ℕ} 4 8 = eight_long (h (0 ∷ 0 ∷ 0 ∷ 0 ∷ []) refl) refl in omega arith

-- whether a number was read, and which
abbrev is_read : VarintRead → ℕ
is_read (good n count) = 1
is_read cut = 0
is_read (over place) = 0

abbrev read_number : VarintRead → ℕ
read_number (good n count) = n
read_number cut = 0
read_number (over place) = 0

-- the one byte 1 is no length and so many bytes
one_is_none : {t : ℕ} {bytes : List ℕ} → Content t bytes → t ≡ 2 → bytes ≡ 1 ∷ [] → ⊥
unfolding read_varint
one_is_none (number n bytes r) h e = omega arith
one_is_none (eight bytes s) h e = omega arith
one_is_none (body [] bytes r) h e = let z : ◌≡◌ {A = ℕ} 0 1 = ap is_read r in omega arith
one_is_none (body (a ∷ []) [] r) h e =
    let f : a ≡ 1 = ap (item 0) e in
    let z : ◌≡◌ {A = ℕ} 1 0 = ap read_number (rw f at r) in omega arith
one_is_none (body (a ∷ []) (b ∷ bytes) r) h e = let z : suc (suc (length bytes)) ≡ 1 = ap length e in omega arith
one_is_none (body (a ∷ b ∷ lead) bytes r) h e = let z : suc (suc (length (lead ++ bytes))) ≡ 1 = ap length e in omega arith
one_is_none (four bytes s) h e = omega arith

-- a length that counts itself
pub length_of_all : ((lead bytes : List ℕ) → Reads lead (length (lead ++ bytes)) → Content delimited_type (lead ++ bytes)) → ⊥
unfolding read_varint
length_of_all h = one_is_none (h (1 ∷ []) [] refl) refl refl
