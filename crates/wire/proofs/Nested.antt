-- A nested message in a list that has room for its field: the head and the size of the message are put, then the message into the part that follows.
--     nested_long                                         the field's size, reckoned
--     nested_inside nested_room nested_sum nested_done    the two parts
use Prim.Native.Nat.{ℕ, ◌+◌, ◌-◌, ◌≤◌}
use mathlib.Core.Path.{◌≡◌, ap}
use mathlib.Core.List.{List}
use native.Mathlib.Omega.{arith}
use lib.ListN.{length}
use borrow.Rule.Slice.PartMut.{mid_of, put_mid}
use Rattle.promise.specs.Answers.{Gives}
use Rattle.wire.specs.declared.field.Field.{Field}
use Rattle.wire.specs.Fields.{varint_field, delimited}
use Rattle.promise.specs.Puts.{put}
use Rattle.promise.proofs.Fronts.{both_inside, both_room, both_sum, both_done}
use Rattle.wire.proofs.Fields.{message_parts, delimited_long}

module _ (field : Field) (body : List ℕ) (size : ℕ) (e : size ≡ length body) where
  pub nested_long : (lead : ℕ) → lead ≡ length (varint_field field size) → lead + size ≡ length (delimited field body)
  nested_long lead f = omega (arith, e, f, delimited_long field body, ap (λ (n : ℕ). length (varint_field field n)) e)

  module _ (out : List ℕ) (room : length (delimited field body) ≤ length out) {at : ℕ} {l : List ℕ} (g : Gives (put (varint_field field size) out) at l) where
    pub nested_inside : at ≤ length l
    nested_inside = both_inside _ _ _ _ (message_parts field size body e) g room

    pub nested_room : length body ≤ length (mid_of at (length l - at) l)
    nested_room = both_room _ _ _ _ (message_parts field size body e) g room

    module _ {k : ℕ} {ys : List ℕ} (q : Gives (put body (mid_of at (length l - at) l)) k ys) where
      pub nested_sum : at + k ≤ length out
      nested_sum = omega (arith, both_sum _ _ _ _ (message_parts field size body e) g room q, room)

      pub nested_done : Gives (put (delimited field body) out) (at + k) (put_mid at (length l - at) l ys)
      nested_done = both_done _ _ _ _ (message_parts field size body e) g room q
