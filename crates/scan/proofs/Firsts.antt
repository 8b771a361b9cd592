-- Varints, and a message, that are not empty: the first varint, or field, stands in front, and varints, or a message, are behind it. Both say that there are
-- some number of them, and that number moves in behind the first and out again.
use Prim.Native.Nat.{ℕ, zero, suc, ◌<◌}
use mathlib.Core.Path.{◌≡◌, ap}
use mathlib.Core.Logic.{◌↔◌}
use mathlib.Core.List.{List, []}
use native.Mathlib.Omega.{arith}
use lib.ListN.{length}
use Rattle.wire.specs.Reading.{read_of}
use Rattle.messages.specs.declared.key.Kind.{Kind}
use Rattle.messages.specs.Keys.{follows}
use Rattle.scan.specs.Grammar.{Varint, VarintsOf, Varints, Content, FieldsOf, Message}
use Rattle.scan.proofs.Grammar.{then_map, then_out, content_map, content_out}
use Rattle.scan.proofs.Moves.{KeyThen}

not_empty : (bs : List ℕ) → 0 < length bs → bs ≡ [] → ⊥
not_empty bs h e = let z : length bs ≡ 0 = ap length e in omega (arith, h, z)

-- ---- varints
pub varints_first : (bs : List ℕ) → 0 < length bs → Varints bs ↔ Varint 9 bs (λ n r. Varints r)
varints_first bs h = (first, counted)
  where
    first : Varints bs → Varint 9 bs (λ n r. Varints r)
    first (zero, e) = absurd (not_empty bs h e)
    first (suc c, t) = then_map (read_of 2 9 bs) bs (λ n r. VarintsOf c r) (λ n r. Varints r) (λ n x k. (c, k)) t

    counted : Varint 9 bs (λ n r. Varints r) → Varints bs
    counted t = let o = then_out (read_of 2 9 bs) bs (λ c n r. VarintsOf c r) t in (suc o.0, o.1)

-- ---- a message
module _ (Q : Kind → List ℕ → Type 0) (kind : Kind) where
  abbrev pub FieldFirst : List ℕ → Type 0
  FieldFirst bs = Varint 9 bs (KeyThen Q kind)

  -- so many fields behind a key and what follows it
  abbrev KeyThenOf : ℕ → ℕ → List ℕ → Type 0
  KeyThenOf c key r = Content Q (follows kind key) r (FieldsOf Q kind c)

  pub message_first : (bs : List ℕ) → 0 < length bs → Message Q kind bs ↔ FieldFirst bs
  message_first bs h = (first, counted)
    where
      first : Message Q kind bs → FieldFirst bs
      first (zero, e) = absurd (not_empty bs h e)
      first (suc c, t) =
          then_map (read_of 2 9 bs) bs (KeyThenOf c) (KeyThen Q kind)
          (λ key x k. content_map Q (follows kind key) x (FieldsOf Q kind c) (Message Q kind) (λ y m. (c, m)) k) t

      counted : FieldFirst bs → Message Q kind bs
      counted t =
          let inner : Varint 9 bs (λ key x. (c : ℕ) × KeyThenOf c key x) =
          then_map (read_of 2 9 bs) bs (KeyThen Q kind) (λ key x. (c : ℕ) × KeyThenOf c key x)
          (λ key x k. content_out Q (follows kind key) x (FieldsOf Q kind) k) t in
          let o = then_out (read_of 2 9 bs) bs KeyThenOf inner in
          (suc o.0, o.1)
