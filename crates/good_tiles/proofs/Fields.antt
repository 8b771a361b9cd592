-- Bytes that are fields one behind the other, each known to the kind of message that they are in: one field is that, and two such one behind the other are.
-- A message of such fields is good by the definition of crate `messages`, wherever it stands.
use Prim.Native.Nat.{ℕ, suc, ◌≤◌, ◌<◌}
use mathlib.Core.Path.{◌≡◌, refl, sym, ◌∙◌}
use mathlib.Core.Bool.{true}
use mathlib.Core.List.{List, [], ◌∷◌, ◌++◌, append-nil}
use native.Mathlib.Omega.{arith}
use lib.ListN.{length}
use Rattle.wire.specs.declared.field.Field.{Field}
use Rattle.wire.specs.Schema.{key_of}
use Rattle.wire.specs.Fields.{varint_field, fixed32_field, fixed64_field, delimited, varints, packed_field}
use Rattle.wire.proofs.Fields.{delimited_long}
use Rattle.messages.specs.declared.key.Kind.{Kind}
use Rattle.messages.specs.declared.key.Body.TheVariants.{Any as any, Varints as varintsIn, Within as within}
use Rattle.messages.specs.declared.key.Follows.TheVariants.{AVarint as aVarint, Bytes as bytes, ABody as aBody}
use Rattle.messages.specs.Keys.{follows}
use Rattle.messages.specs.Tiles.{nested}
use Rattle.messages.proofs.Written.{All, all_append, Below64, Piece, number, four, eight, body, written, written_all, written_append}
use Rattle.messages.proofs.Written.{Good, any_body, numbers_body, message_body, is_message_lem}
use Rattle.messages.proofs.Written.{number_written, four_written, eight_written, body_written}
use Rattle.tile.proofs.Features.{packed_short}

-- fields of a message of this kind, in which messages are so many deep
pub record WellFormed (depth : ℕ) (kind : Kind) (l : List ℕ) : Type 0 where
  pub pieces : List Piece
  pub good : All (Good (nested depth) kind) pieces
  pub are : l ≡ written_all pieces

pub is_good_lem : {depth : ℕ} {kind : Kind} {l : List ℕ} → WellFormed depth kind l → (front : List ℕ) → nested (suc depth) kind (length front) (front ++ l) ≡ true
unfolding nested
is_good_lem {depth} {kind} w front = rw w.are (is_message_lem (nested depth) kind w.pieces w.good front)

pub end : (depth : ℕ) (kind : Kind) → WellFormed depth kind []
end depth kind = record { pieces = []; good = tt; are = refl }

pub both : {depth : ℕ} {kind : Kind} {a b : List ℕ} → WellFormed depth kind a → WellFormed depth kind b → WellFormed depth kind (a ++ b)
both {depth} {kind} v w =
    record {
      pieces = v.pieces ++ w.pieces;
      good = all_append (Good (nested depth) kind) v.pieces w.pieces v.good w.good;
      are = rw (v.are, w.are) (sym (written_append v.pieces w.pieces));
    }

-- ---- what our writers write is one field
module _ (depth : ℕ) (kind : Kind) (f : Field) where
  one : (p : Piece) {l : List ℕ} → l ≡ written p → Good (nested depth) kind p → WellFormed depth kind l
  one p e g = record { pieces = p ∷ []; good = (g, tt); are = e ∙ sym (append-nil (written p)) }

  pub number_field : follows kind (key_of f) ≡ aVarint → (n : ℕ) → n < 18446744073709551616 → WellFormed depth kind (varint_field f n)
  number_field e n h = one (number f n) (number_written f n) (e, h)

  pub four_field : follows kind (key_of f) ≡ bytes 4 → (n : ℕ) → n < 4294967296 → WellFormed depth kind (fixed32_field f n)
  four_field e n h = one (four f n) (four_written f n) (e, h)

  pub eight_field : follows kind (key_of f) ≡ bytes 8 → (n : ℕ) → n < 18446744073709551616 → WellFormed depth kind (fixed64_field f n)
  eight_field e n h = one (eight f n) (eight_written f n) (e, h)

  pub body_field : follows kind (key_of f) ≡ aBody any → (b : List ℕ) → length b < 18446744073709551616 → WellFormed depth kind (delimited f b)
  body_field e b h = one (body f b) (body_written f b) (any_body (nested depth) kind f b h e)

  pub packed_field_lem : follows kind (key_of f) ≡ aBody varintsIn → (ws : List ℕ) → length ws ≤ 4294967295 → All Below64 ws
      → WellFormed depth kind (packed_field f ws)
  packed_field_lem e [] h g = end depth kind
  packed_field_lem e (w ∷ ws) h g =
      let b = varints (w ∷ ws) in
      one (body f b) (body_written f b)
      (numbers_body (nested depth) kind f b (omega (arith, packed_short f (w ∷ ws), delimited_long f b)) e (w ∷ ws) g refl)

  pub message_field : (inner : Kind) → (d : ℕ) → depth ≡ suc d → follows kind (key_of f) ≡ aBody (within inner) → (b : List ℕ)
      → length b < 18446744073709551616 → WellFormed d inner b → WellFormed depth kind (delimited f b)
  message_field inner d s e b h w =
      one (body f b) (body_written f b) (message_body (nested depth) kind f b h inner e (λ front. rw s (is_good_lem w front)))
