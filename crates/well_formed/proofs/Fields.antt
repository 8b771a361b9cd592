-- One field is a well-formed message, and two messages one behind the other are one.
use Prim.Native.Nat.{ℕ, ◌+◌, ◌/◌, ◌≤◌, ◌<◌}
use mathlib.Core.Path.{◌≡◌, refl, ◌∙◌}
use mathlib.Core.List.{List, [], ◌∷◌, ◌++◌, append-nil, append_assoc}
use native.Mathlib.Omega.{arith}
use lib.ListN.{length}
use Rattle.wire.specs.declared.field.Field.{Field}
use Rattle.wire.specs.Varints.{varint}
use Rattle.wire.specs.Schema.{number_of, type_of, key_of, head, varint_type, fixed64_type, delimited_type, fixed32_type}
use Rattle.wire.specs.Numbers.{fixed32, fixed64}
use Rattle.wire.specs.Fields.{varint_field, fixed32_field, fixed64_field, delimited, varints, packed_field}
use Rattle.wire.proofs.Schema.{head_one}
use Rattle.wire.proofs.Fields.{varint_field_lem, delimited_parts, delimited_long}
use Rattle.wire.proofs.Readback.{varint_back}
use Rattle.wire.proofs.Heads.{head_back, key_number, key_type}
use Rattle.tile.proofs.Features.{packed_short}
use Rattle.well_formed.specs.Messages.{Kind, plain, message, inside, Reads, Content, number, eight, body, four, WellFormed, end, field, nested}

pub both : {kind : Kind} {a b : List ℕ} → WellFormed kind a → WellFormed kind b → WellFormed kind (a ++ b)
both (end kind) w = w
both {b = b} (field kind key h c rest r s i t v) w =
    rw (append_assoc h (c ++ rest) b, append_assoc c rest b) (field kind key h c (rest ++ b) r s i t (both v w))
both {b = b} (nested kind within key h lead bytes rest r s i t l m v) w =
    rw (append_assoc h ((lead ++ bytes) ++ rest) b, append_assoc (lead ++ bytes) rest b) (nested kind within key h lead bytes (rest ++ b) r s i t l m (both v w))

-- ---- what our writers write is read
varint_reads : (n : ℕ) → n < 18446744073709551616 → Reads (varint n) n
varint_reads n h = rw append-nil at (varint_back n [] h)

head_reads : (f : Field) → Reads (head f) (key_of f)
head_reads f = rw head_one (rw append-nil at (head_back f []))

module _ (kind : Kind) (f : Field) (some : 0 < number_of f) where
  key_some : 0 < key_of f / 8
  key_some = rw key_number some

  module _ (i : inside kind (number_of f) ≡ plain) where
    key_plain : inside kind (key_of f / 8) ≡ plain
    key_plain = rw key_number i

    one : (content : List ℕ) → Content (type_of f) content → WellFormed kind (head f ++ content)
    one content c = rw append-nil at (field kind (key_of f) (head f) content [] (head_reads f) key_some key_plain (rw key_type c) (end kind))

    pub number_field : type_of f ≡ varint_type → (n : ℕ) → n < 18446744073709551616 → WellFormed kind (varint_field f n)
    number_field t n h = rw varint_field_lem (one (varint n) (rw t (number n (varint n) (varint_reads n h))))

    pub four_field : type_of f ≡ fixed32_type → (n : ℕ) → WellFormed kind (fixed32_field f n)
    unfolding fixed32_field fixed32
    four_field t n = one (fixed32 n) (rw t (four (fixed32 n) refl))

    pub eight_field : type_of f ≡ fixed64_type → (n : ℕ) → WellFormed kind (fixed64_field f n)
    unfolding fixed64_field fixed64
    eight_field t n = one (fixed64 n) (rw t (eight (fixed64 n) refl))

    pub body_field : type_of f ≡ delimited_type → (bytes : List ℕ) → length bytes < 18446744073709551616 → WellFormed kind (delimited f bytes)
    body_field t bytes h =
        rw (delimited_parts, varint_field_lem, append_assoc)
        (one (varint (length bytes) ++ bytes) (rw t (body (varint (length bytes)) bytes (varint_reads (length bytes) h))))

    pub packed_field_lem : type_of f ≡ delimited_type → (ws : List ℕ) → length ws ≤ 4294967295 → WellFormed kind (packed_field f ws)
    packed_field_lem t [] h = end kind
    packed_field_lem t (w ∷ ws) h = body_field t (varints (w ∷ ws)) (omega (arith, packed_short f (w ∷ ws), delimited_long f (varints (w ∷ ws))))

  pub message_field : (within : Kind) → inside kind (number_of f) ≡ message within → type_of f ≡ delimited_type → (bytes : List ℕ) → length bytes < 18446744073709551616 → WellFormed within bytes → WellFormed kind (delimited f bytes)
  message_field within i t bytes h w =
      let v : WellFormed kind (head f ++ ((varint (length bytes) ++ bytes) ++ [])) =
      nested kind within (key_of f) (head f) (varint (length bytes)) bytes [] (head_reads f) key_some (rw key_number i) (key_type f ∙ t) (varint_reads (length bytes) h) w (end kind) in
      rw (delimited_parts, varint_field_lem, append_assoc) (rw append-nil at v)
