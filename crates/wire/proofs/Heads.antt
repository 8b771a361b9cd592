-- A head reads back to its field's number and wire type, whatever follows it.
use mathlib.Core.Path.{◌≡◌, ap, ◌∙◌}
use mathlib.Core.List.{List, ◌++◌}
use native.Mathlib.Omega.{arith}
use lib.ListN.{length}
use Prim.Native.Nat.{ℕ, ◌/◌, ◌%◌}
use Rattle.wire.specs.Reading.{good, read_varint}
use Rattle.wire.proofs.Varints.{varint_one}
use Rattle.wire.proofs.Readback.{varint_back}
use Rattle.wire.specs.declared.field.Field.{Field}
use Rattle.wire.specs.Schema.{number_of, type_of, key_of, head}
use Rattle.wire.proofs.Schema.{small, key_small}

pub head_back : (field : Field) (rest : List ℕ) → read_varint (head field ++ rest) ≡ good (key_of field) 1
unfolding head
head_back field rest = varint_back (key_of field) rest (omega (arith, key_small field)) ∙ ap (λ (l : List ℕ). good (key_of field) (length l)) (varint_one (key_of field) (key_small field))

pub key_number : (field : Field) → key_of field / 8 ≡ number_of field
key_number field = omega (arith, (small field).type)

pub key_type : (field : Field) → key_of field % 8 ≡ type_of field
key_type field = omega (arith, (small field).type)
