-- The bytes that `is_good` says yes to are the grammar's tiles. A message read where it stands is, field by field, a message of the bytes from there on, if
-- that is so of the messages inside it; from there the depth is an induction.
use Prim.Native.Nat.{ℕ, zero, suc, ◌+◌, ◌≤◌, ◌<◌}
use mathlib.Core.Path.{◌≡◌, refl, sym, subst}
use mathlib.Core.Logic.Iff
use mathlib.Core.Logic.{◌↔◌}
use mathlib.Core.Bool.{Bool, true, false, cond, false≢true}
use mathlib.Core.List.{List}
use mathlib.Core.Option.{Option, none, some}
use native.Mathlib.Omega.{arith}
use borrow.Author.Tests.{leb-true, leb-false}
use lib.Dec.{leb}
use lib.ListN.{length, take, drop, length-drop}
use lib.Seq.{drop-drop, drop-length, length-take-le}
use Rattle.messages.specs.declared.key.Kind.{Kind}
use Rattle.messages.specs.declared.key.Kind.TheVariants.{Tile as tile}
use Rattle.messages.specs.declared.key.Body.{Body}
use Rattle.messages.specs.declared.key.Body.TheVariants.{Any as any, Varints as varints, Within as within}
use Rattle.messages.specs.declared.key.Follows.{Follows}
use Rattle.messages.specs.declared.key.Follows.TheVariants.{Wrong as wrong, AVarint as aVarint, Bytes as bytes, ABody as aBody}
use Rattle.messages.specs.declared.field.FieldAt.{FieldAt}
use Rattle.messages.specs.Keys.{follows}
use Rattle.messages.specs.Fields.{varint_at, from_little, field_from, numbered, fixed, bodied, content, keyed, field_at, before, and_then, fields_from}
use Rattle.messages.specs.Tiles.{is_body, is_content, holds, all_hold, if_read, is_message, nested, is_good}
use Rattle.messages.proofs.Fields.{varint_ends, field_ends, fields_step, fields_end}
use Rattle.scan.specs.Grammar.{Within, IsBody, Content, Message, Level}
use Rattle.scan.proofs.Moves.{KeyThen}
use Rattle.scan.proofs.Firsts.{FieldFirst, message_first}
use Rattle.scan.proofs.Standing.{drop_take, from_end, Next, varint_next, numbers_are}
use Rattle.std.specs.Prelude.{Some, None}
use Rattle.messages.specs.Fields.{VarintAt, NextField}

-- P, asked of the bytes from a place to their end, is Q of those bytes
abbrev pub Agree : (Kind → ℕ → List ℕ → Bool) → (Kind → List ℕ → Type 0) → Type 0
Agree P Q = (kind : Kind) (at : ℕ) (src : List ℕ) → at ≤ length src → (P kind at src ≡ true) ↔ Q kind (drop at src)

module _ (P : Kind → ℕ → List ℕ → Bool) (Q : Kind → List ℕ → Type 0) (agree : Agree P Q) where
  -- ---- a body: its bytes are the message's, from its start on and cut at its end
  cut_is : (body : Body) (at : ℕ) (src : List ℕ) → at ≤ length src → (is_body P body at src ≡ true) ↔ IsBody Q body (drop at src)
  cut_is any at src h = (λ t. tt, λ t. refl)
  cut_is varints at src h = numbers_are src at h
  cut_is (within kind) at src h = agree kind at src h

  body_is : (body : Body) (start n : ℕ) (src : List ℕ) → start + n ≤ length src
      → (is_body P body start (take (start + n) src) ≡ true) ↔ IsBody Q body (take n (drop start src))
  body_is body start n src h =
      let l : start ≤ length (take (start + n) src) = omega (arith, length-take-le (start + n) src h) in
      rw (← drop_take start n src) (cut_is body start (take (start + n) src) l)

  module _ (kind : Kind) (src : List ℕ) where
    -- ---- what follows a key: the field that is read holds, and behind it is a message
    abbrev Met : NextField → Type 0
    Met (Some f) = (holds P kind src f ≡ true) × Message Q kind (drop f.end src)
    Met None = ⊥

    -- so many bytes from a place on, which hold what they must where they are an A
    module _ (key value start n : ℕ) (A : List ℕ → Type 0) where
      abbrev Part : Bool → Type 0
      Part b = Met (cond b (Some (field_from key value start (start + n))) None) ↔ Within n (drop start src) A (Message Q kind)

      part_met : start ≤ length src
          → (start + n ≤ length src → (is_content P (follows kind key) start (take (start + n) src) ≡ true) ↔ A (take n (drop start src)))
          → Part (leb (start + n) (length src))
      part_met h held = by (leb (start + n) (length src)) refl
        where
          by : (b : Bool) → leb (start + n) (length src) ≡ b → Part b
          by true t =
              let l = leb-true (start + n) (length src) t in
              let d = drop-drop n start src in (
                λ m. record { there = omega (arith, l, length-drop start src); inside = (held l).0 m.0; rest = subst (Message Q kind) (sym d) m.1 },
                λ w. ((held l).1 w.inside, subst (Message Q kind) d w.rest),
              )
          by false t = (λ m. absurd m, λ w. absurd (omega (arith, h, leb-false (start + n) (length src) t, w.there, length-drop start src)))

    module _ (key start : ℕ) (h : start ≤ length src) where
      number_met : follows kind key ≡ aVarint → (r : VarintAt) → Met (numbered key start r) ↔ Next r src (λ n x. Message Q kind x)
      number_met e (Some (n, next)) = (λ m. m.1, λ m. (rw e refl, m))
      number_met e None = (λ m. m, λ m. m)

      bytes_met : (n : ℕ) → follows kind key ≡ bytes n → Met (fixed key n start src) ↔ Within n (drop start src) (λ m. Unit {0}) (Message Q kind)
      bytes_met n e = part_met key (from_little (take n (drop start src))) start n (λ m. Unit {0}) h (λ l. (λ t. tt, λ t. rw e refl))

      body_met : (body : Body) → follows kind key ≡ aBody body → (r : VarintAt) → varint_at start src ≡ r
          → Met (bodied key src r) ↔ Next r src (λ n x. Within n x (IsBody Q body) (Message Q kind))
      body_met body e (Some (n, begun)) v = part_met key 0 begun n (IsBody Q body) (varint_ends v).inside (λ l. rw e (body_is body begun n src l))
      body_met body e None v = (λ m. m, λ m. m)

      content_met : (c : Follows) → follows kind key ≡ c → Met (content key start src c) ↔ Content Q c (drop start src) (Message Q kind)
      unfolding content
      content_met wrong e = (λ m. m, λ m. m)
      content_met aVarint e = Iff.trans (number_met e (varint_at start src)) (Iff.symm (varint_next start src (λ n x. Message Q kind x)))
      content_met (bytes n) e = bytes_met n e
      content_met (aBody body) e =
          Iff.trans (body_met body e (varint_at start src) refl) (Iff.symm (varint_next start src (λ n x. Within n x (IsBody Q body) (Message Q kind))))

    -- ---- a field
    keyed_met : (at : ℕ) (r : VarintAt) → varint_at at src ≡ r → Met (keyed kind src r) ↔ Next r src (KeyThen Q kind)
    keyed_met at (Some (key, start)) v = content_met key start (varint_ends v).inside (follows kind key) refl
    keyed_met at None v = (λ m. m, λ m. m)

    field_met : (at : ℕ) → Met (field_at kind at src) ↔ FieldFirst Q kind (drop at src)
    unfolding field_at
    field_met at = Iff.trans (keyed_met at (varint_at at src) refl) (Iff.symm (varint_next at src (KeyThen Q kind)))

    -- ---- fields to the end
    abbrev Are : ℕ → Type 0
    Are at = (is_message P kind at src ≡ true) ↔ Message Q kind (drop at src)

    before_is : (f : FieldAt) (o : Option (List FieldAt))
        → (if_read P kind src (before f o) ≡ true) ↔ ((holds P kind src f ≡ true) × (if_read P kind src o ≡ true))
    before_is f none = (λ t. absurd (false≢true t), λ t. absurd (false≢true t.1))
    before_is f (some fs) = by (holds P kind src f) (all_hold P kind src fs)
      where
        by : (b c : Bool) → (cond b c false ≡ true) ↔ ((b ≡ true) × (c ≡ true))
        by true c = (λ t. (refl, t), λ t. t.1)
        by false c = (λ t. absurd (false≢true t), λ t. absurd (false≢true t.0))

    none_left : Are (length src)
    none_left = (λ r. (0, drop-length src), λ m. rw (fields_end src kind (length src) (omega arith)) refl)

    module _ (at : ℕ) (h : at < length src) (go : (next : ℕ) → at < next → next ≤ length src → Are next) where
      one_read : (r : NextField) → field_at kind at src ≡ r → (if_read P kind src (and_then r (λ f. fields_from kind f.end src)) ≡ true) ↔ Met r
      one_read (Some f) e =
          let v = field_ends kind e in
          let i = go f.end v.later v.inside in
          let b = before_is f (fields_from kind f.end src) in
          (λ t. let p = b.0 t in (p.0, i.0 p.1), λ m. b.1 (m.0, i.1 m.1))
      one_read None e = (λ t. false≢true t, λ t. absurd t)

      one_left : Are at
      one_left =
          let l : 0 < length (drop at src) = omega (arith, h, length-drop at src) in
          let s = Iff.trans (one_read (field_at kind at src) refl) (field_met at) in
          rw (fields_step src kind at h) (Iff.trans s (Iff.symm (message_first Q kind (drop at src) l)))

  pub message_is : Agree (is_message P) (Message Q)
  message_is kind at src h = from_end (length src) (Are kind src) (none_left kind src) (one_left kind src) at h

-- ---- messages one inside the other, and a tile
pub nested_is : (depth : ℕ) → Agree (nested depth) (Level depth)
unfolding nested
nested_is zero kind at src h = (λ t. false≢true t, λ t. absurd t)
nested_is (suc depth) kind at src h = message_is (nested depth) (Level depth) (nested_is depth) kind at src h

pub good_is : (bs : List ℕ) → (is_good bs ≡ true) ↔ Level 3 tile bs
unfolding is_good
good_is bs = nested_is 3 tile 0 bs (omega arith)
