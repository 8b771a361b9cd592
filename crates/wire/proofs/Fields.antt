-- Laws of fields: the parts of each, and so their lengths. Callers cite these; the definitions stay shut.
use Prim.Native.Nat.{ℕ, suc, ◌+◌, ◌*◌, ◌^◌, ◌≤◌, ◌<◌}
use mathlib.Core.Path.{◌≡◌, refl, sym, ap, ◌∙◌}
use mathlib.Core.List.{List, [], ◌∷◌, ◌++◌}
use native.Mathlib.Omega.{arith}
use Rattle.std.proofs.Math.Nat.{div-div-eq-div-mul}
use lib.ListN.{length, get_or, length-append}
use Rattle.promise.specs.Answers.{Gives}
use Rattle.wire.specs.declared.field.Field.{Field}
use Rattle.wire.specs.Varints.{varint}
use Rattle.wire.specs.Schema.{key_of, head}
use Rattle.std.specs.Int.{to_le_bytes}
use mir.Syntax.{w32, w64}
use Rattle.wire.specs.Numbers.{little, fixed32, fixed64}
use Rattle.wire.specs.Fields.{varint_field, fixed32_field, fixed64_field, delimited, varints, packed_field}
use Rattle.promise.specs.Puts.{put}
use Rattle.wire.proofs.Varints.{varint_ten, varint_five}
use Rattle.wire.proofs.Schema.{head_one}

-- ---- heads
module _ (field : Field) (key : ℕ) (e : key ≡ key_of field) where
  pub head_size : (r : ℕ) → r ≡ length (varint key) → r ≡ length (head field)
  unfolding head
  head_size r q = q ∙ ap (λ (k : ℕ). length (varint k)) e

  pub head_put : (out : List ℕ) (r : ℕ) (l : List ℕ) → Gives (put (varint key) out) r l → Gives (put (head field) out) r l
  unfolding head
  head_put out r l g = rw (← e) g

-- ---- the library's bytes of a number are those of the definition
le_four : (n : ℕ) → to_le_bytes w32 n ≡ little 4 n
le_four n = rw (div-div-eq-div-mul n 256 256, div-div-eq-div-mul n (256 ^ 2) 256) refl

le_eight : (n : ℕ) → to_le_bytes w64 n ≡ little 8 n
le_eight n =
    rw (
      div-div-eq-div-mul n 256 256,
      div-div-eq-div-mul n (256 ^ 2) 256,
      div-div-eq-div-mul n (256 ^ 3) 256,
      div-div-eq-div-mul n (256 ^ 4) 256,
      div-div-eq-div-mul n (256 ^ 5) 256,
      div-div-eq-div-mul n (256 ^ 6) 256,
    )
    refl

module _ (field : Field) where
  -- ---- a number
  pub varint_field_lem : (n : ℕ) → varint_field field n ≡ head field ++ varint n
  unfolding varint_field
  varint_field_lem n = refl

  pub varint_field_long : (n : ℕ) → length (varint_field field n) ≡ 1 + length (varint n)
  varint_field_long n = ap length (varint_field_lem n) ∙ length-append (head field) (varint n) ∙ omega (arith, head_one field)

  pub varint_field_short : (n : ℕ) → length (varint_field field n) ≤ 11
  varint_field_short n = omega (arith, varint_field_long n, varint_ten n)

  -- ---- four and eight bytes
  pub fixed32_put : (n : ℕ) (bytes : List ℕ) → bytes ≡ to_le_bytes w32 n → (out : List ℕ) (r : ℕ) (l : List ℕ) → Gives (put (head field ++ bytes) out) r l → Gives (put (fixed32_field field n) out) r l
  unfolding fixed32_field fixed32
  fixed32_put n bytes e out r l g = rw (sym (le_four n), ← e) g

  pub fixed64_put : (n : ℕ) (bytes : List ℕ) → bytes ≡ to_le_bytes w64 n → (out : List ℕ) (r : ℕ) (l : List ℕ) → Gives (put (head field ++ bytes) out) r l → Gives (put (fixed64_field field n) out) r l
  unfolding fixed64_field fixed64
  fixed64_put n bytes e out r l g = rw (sym (le_eight n), ← e) g

  pub fixed32_field_long : (n : ℕ) → length (fixed32_field field n) ≡ 5
  unfolding fixed32_field fixed32
  fixed32_field_long n = length-append (head field) (fixed32 n) ∙ omega (arith, head_one field)

  pub fixed64_field_long : (n : ℕ) → length (fixed64_field field n) ≡ 9
  unfolding fixed64_field fixed64
  fixed64_field_long n = length-append (head field) (fixed64 n) ∙ omega (arith, head_one field)

  -- ---- a body behind its length: a text, a packed list, any message
  pub delimited_parts : (body : List ℕ) → delimited field body ≡ varint_field field (length body) ++ body
  unfolding delimited
  delimited_parts body = refl

  -- the size reckoned first, and the body
  pub message_parts : (size : ℕ) (body : List ℕ) → size ≡ length body → delimited field body ≡ varint_field field size ++ body
  message_parts size body e = rw e (delimited_parts body)

  pub delimited_long : (body : List ℕ) → length (delimited field body) ≡ length (varint_field field (length body)) + length body
  delimited_long body = ap length (delimited_parts body) ∙ length-append (varint_field field (length body)) body

  -- ---- packed lists: none of no words; else their varints behind the size of these
  pub packed_none : (words : List ℕ) → length words ≡ 0 → packed_field field words ≡ []
  packed_none [] h = refl
  packed_none (w ∷ words) h = absurd (omega arith)

  module _ (words : List ℕ) (some : length words ≡ 0 → ⊥) (size : ℕ) (e : size ≡ length (varints words)) where
    pub packed_parts : packed_field field words ≡ varint_field field size ++ varints words
    packed_parts = rw e (by words some)
      where
        by : (ws : List ℕ) → (length ws ≡ 0 → ⊥) → packed_field field ws ≡ varint_field field (length (varints ws)) ++ varints ws
        by [] h = absurd (h refl)
        by (w ∷ ws) h = delimited_parts (varints (w ∷ ws))

    pub packed_long : length (packed_field field words) ≡ length (varint_field field size) + size
    packed_long = ap length packed_parts ∙ length-append (varint_field field size) (varints words) ∙ omega (arith, e)

-- words of 32 bits take five bytes at most each
pub varints_few : (words : List ℕ) → ((i : ℕ) → get_or words i 0 < 4294967296) → length (varints words) ≤ length words * 5
varints_few [] h = omega arith
varints_few (w ∷ words) h = omega (arith, length-append (varint w) (varints words), varint_five w (h 0), varints_few words (λ i. h (suc i)))
