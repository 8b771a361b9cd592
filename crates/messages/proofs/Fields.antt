-- Laws of fields where they stand: each takes a byte at least and ends inside the bytes, so that the turns of fieldsBy and numbersBy never run out.
--     varint_ends field_ends                       where a varint and a field end
--     turns_enough number_turns                    as many turns as there are bytes left, or more, give the same
--     fields_step fields_end                       fields from a place: one and those behind it, or none where the bytes end
--     numbers_step numbers_end                     the same of packed numbers
use Prim.Native.Nat.{ℕ, zero, suc, ◌+◌, ◌≤◌, ◌<◌}
use mathlib.Core.Path.{◌≡◌, refl, sym, ap, subst, ◌∙◌}
use mathlib.Core.Bool.{Bool, true, false, cond}
use mathlib.Core.List.{List, []}
use mathlib.Core.Option.{Option, some}
use native.Mathlib.Omega.{arith}
use borrow.Author.Tests.{lt-ltb, le-ltb, leb-true}
use lib.Dec.{ltb, leb}
use lib.ListN.{length, take, drop, length-drop}
use Rattle.wire.specs.Reading.{VarintRead, good, cut, over, read_varint}
use Rattle.wire.proofs.Readback.{read_fits, read_used}
use Rattle.messages.specs.declared.key.Kind.{Kind}
use Rattle.messages.specs.declared.key.Follows.{Follows}
use Rattle.messages.specs.declared.key.Follows.TheVariants.{Wrong as wrong, AVarint as aVarint, Bytes as bytes, ABody as aBody}
use Rattle.messages.specs.declared.field.FieldAt.{FieldAt}
use Rattle.messages.specs.Keys.{follows}
use Rattle.messages.specs.Fields.{placed, varint_at, from_little, field_from, numbered, fixed, bodied, content, keyed, field_at}
use Rattle.messages.specs.Fields.{before, and_then, fields_by, fields_from, number_before, number_then, numbers_by, numbers_from}
use Rattle.std.specs.Prelude.{Some, None}
use Rattle.messages.specs.Fields.{VarintAt, NextField}

-- ---- a varint
pub record VarintEnds (at : ℕ) (src : List ℕ) (n next : ℕ) : Type 0 where
  pub later : at < next
  pub inside : next ≤ length src
  pub fits : n < 18446744073709551616

module _ (at : ℕ) (src : List ℕ) (n next : ℕ) where
  placed_ends : (r : VarintRead) → read_varint (drop at src) ≡ r → placed at r ≡ Some (n, next) → VarintEnds at src n next
  placed_ends (good m k) e p =
      let q : ◌≡◌ {A = ℕ × ℕ} (m, at + k) (n, next) = cc in
      let i : m ≡ n = ap (λ (x : ℕ × ℕ). x.0) q in
      let j : at + k ≡ next = ap (λ (x : ℕ × ℕ). x.1) q in
      let u = read_used (drop at src) m k e in
      let l = length-drop at src in
      record { later = omega (arith, u.0, j); inside = omega (arith, u.0, u.1, l, j); fits = omega (arith, read_fits (drop at src) m k e, i) }
  placed_ends cut e p = absurd (let z : ◌≡◌ {A = ℕ} 0 1 = cc in omega arith)
  placed_ends (over place) e p = absurd (let z : ◌≡◌ {A = ℕ} 0 1 = cc in omega arith)

pub varint_ends : {at : ℕ} {src : List ℕ} {n next : ℕ} → varint_at at src ≡ Some (n, next) → VarintEnds at src n next
unfolding varint_at
varint_ends {at} {src} {n} {next} e = placed_ends at src n next (read_varint (drop at src)) refl e

-- ---- a field
pub record FieldEnds (at : ℕ) (src : List ℕ) (f : FieldAt) : Type 0 where
  pub later : at < f.end
  pub behind : at < f.start
  pub ordered : f.start ≤ f.end
  pub inside : f.end ≤ length src

module _ (at : ℕ) (src : List ℕ) (f : FieldAt) where
  no_field : None ≡ Some f → ⊥
  no_field e = let z : ◌≡◌ {A = ℕ} 0 1 = cc in omega arith

  -- a field made of its parts, and one law for each thing that may follow a key
  made_ends : (key value start end : ℕ) → at < start → start ≤ end → end ≤ length src → Some (field_from key value start end) ≡ Some f → FieldEnds at src f
  made_ends key value start end h k l e =
      let m : field_from key value start end ≡ f = cc in
      subst (FieldEnds at src) m (record { later = omega arith; behind = h; ordered = k; inside = l })

  module _ (key start : ℕ) (h : at < start) where
    numbered_ends : (r : VarintAt) → varint_at start src ≡ r → numbered key start r ≡ Some f → FieldEnds at src f
    numbered_ends (Some (n, next)) v e = let w = varint_ends v in made_ends key n start next h (omega (arith, w.later)) w.inside e
    numbered_ends None v e = absurd (no_field e)

    fixed_ends : (n : ℕ) (b : Bool) → leb (start + n) (length src) ≡ b → fixed key n start src ≡ Some f → FieldEnds at src f
    fixed_ends n true t e =
        let made = rw t at e in
        made_ends key (from_little (take n (drop start src))) start (start + n) h (omega arith) (leb-true (start + n) (length src) t) made
    fixed_ends n false t e = absurd (no_field (rw t at e))

    body_ends : (begun n : ℕ) → at < begun → (b : Bool) → leb (begun + n) (length src) ≡ b → bodied key src (Some (n, begun)) ≡ Some f → FieldEnds at src f
    body_ends begun n g true t e = let made = rw t at e in made_ends key 0 begun (begun + n) g (omega arith) (leb-true (begun + n) (length src) t) made
    body_ends begun n g false t e = absurd (no_field (rw t at e))

    bodied_ends : (r : VarintAt) → varint_at start src ≡ r → bodied key src r ≡ Some f → FieldEnds at src f
    bodied_ends (Some (n, begun)) v e = body_ends begun n (omega (arith, (varint_ends v).later)) (leb (begun + n) (length src)) refl e
    bodied_ends None v e = absurd (no_field e)

    content_ends : (c : Follows) → content key start src c ≡ Some f → FieldEnds at src f
    unfolding content
    content_ends wrong e = absurd (no_field e)
    content_ends aVarint e = numbered_ends (varint_at start src) refl e
    content_ends (bytes n) e = fixed_ends n (leb (start + n) (length src)) refl e
    content_ends (aBody body) e = bodied_ends (varint_at start src) refl e

  keyed_ends : (kind : Kind) (r : VarintAt) → varint_at at src ≡ r → keyed kind src r ≡ Some f → FieldEnds at src f
  keyed_ends kind (Some (key, start)) v e = content_ends key start (varint_ends v).later (follows kind key) e
  keyed_ends kind None v e = absurd (no_field e)

pub field_ends : (kind : Kind) {at : ℕ} {src : List ℕ} {f : FieldAt} → field_at kind at src ≡ Some f → FieldEnds at src f
unfolding field_at
field_ends kind {at} {src} {f} e = keyed_ends at src f kind (varint_at at src) refl e

-- ---- turns
module _ {go on : FieldAt → Option (List FieldAt)} where
  then_same : (r : NextField) → ((f : FieldAt) → r ≡ Some f → go f ≡ on f) → and_then r go ≡ and_then r on
  then_same (Some f) h = ap (before f) (h f refl)
  then_same None h = refl

module _ {go on : ℕ → Option (List ℕ)} where
  number_same : (r : VarintAt) → ((n next : ℕ) → r ≡ Some (n, next) → go next ≡ on next) → number_then r go ≡ number_then r on
  number_same (Some (n, next)) h = ap (number_before n) (h n next refl)
  number_same None h = refl

module _ (src : List ℕ) where
  module _ (kind : Kind) where
    pub fields_over : (turns at : ℕ) → length src ≤ at → fields_by turns kind at src ≡ some []
    unfolding fields_by
    fields_over zero at h = refl
    fields_over (suc turns) at h = rw (le-ltb at (length src) h)

    pub turns_enough : (t u at : ℕ) → length src ≤ at + t → length src ≤ at + u → fields_by t kind at src ≡ fields_by u kind at src
    unfolding fields_by
    turns_enough zero u at h k = sym (fields_over u at (omega arith))
    turns_enough (suc t) zero at h k = fields_over (suc t) at (omega arith)
    turns_enough (suc t) (suc u) at h k =
        ap (λ (x : Option (List FieldAt)). cond (ltb at (length src)) x (some []))
        (then_same (field_at kind at src) (λ f e. let l = (field_ends kind e).later in turns_enough t u f.end (omega arith) (omega arith)))

    pub fields_step : (at : ℕ) → at < length src → fields_from kind at src ≡ and_then (field_at kind at src) (λ f. fields_from kind f.end src)
    unfolding fields_by fields_from
    fields_step at h = turns_enough (length src) (suc (length src)) at (omega arith) (omega arith) ∙ rw (lt-ltb at (length src) h)

    pub fields_end : (at : ℕ) → length src ≤ at → fields_from kind at src ≡ some []
    unfolding fields_from
    fields_end at h = fields_over (length src) at h

  pub numbers_over : (turns at : ℕ) → length src ≤ at → numbers_by turns at src ≡ some []
  unfolding numbers_by
  numbers_over zero at h = refl
  numbers_over (suc turns) at h = rw (le-ltb at (length src) h)

  pub number_turns : (t u at : ℕ) → length src ≤ at + t → length src ≤ at + u → numbers_by t at src ≡ numbers_by u at src
  unfolding numbers_by
  number_turns zero u at h k = sym (numbers_over u at (omega arith))
  number_turns (suc t) zero at h k = numbers_over (suc t) at (omega arith)
  number_turns (suc t) (suc u) at h k =
      ap (λ (x : Option (List ℕ)). cond (ltb at (length src)) x (some []))
      (number_same (varint_at at src) (λ n next e. let l = (varint_ends e).later in number_turns t u next (omega arith) (omega arith)))

  pub numbers_step : (at : ℕ) → at < length src → numbers_from at src ≡ number_then (varint_at at src) (λ next. numbers_from next src)
  unfolding numbers_by numbers_from
  numbers_step at h = number_turns (length src) (suc (length src)) at (omega arith) (omega arith) ∙ rw (lt-ltb at (length src) h)

  pub numbers_end : (at : ℕ) → length src ≤ at → numbers_from at src ≡ some []
  unfolding numbers_from
  numbers_end at h = numbers_over (length src) at h
