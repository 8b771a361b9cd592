-- Varints read where they stand are varints at the front of the bytes from there on.
use Prim.Native.Nat.{ℕ, zero, suc, ◌+◌, ◌≤◌, ◌<◌}
use mathlib.Core.Path.{◌≡◌, refl, sym, ap, ◌∙◌, subst}
use mathlib.Core.Logic.Iff
use mathlib.Core.Logic.{◌↔◌}
use mathlib.Core.Bool.{Bool, true, false, false≢true}
use mathlib.Core.List.{List, [], ◌∷◌}
use mathlib.Core.Option.{Option, none, some}
use native.Mathlib.Omega.{arith}
use borrow.Author.Tests.{ltb-true, ltb-false}
use lib.Dec.{ltb}
use lib.ListN.{length, take, drop, length-drop}
use lib.Seq.{drop-drop, drop-length, take-nil}
use Rattle.wire.specs.Reading.{VarintRead, good, cut, over, read_varint}
use Rattle.messages.specs.Fields.{placed, varint_at, number_before, number_then, numbers_from}
use Rattle.messages.specs.Tiles.{is_read}
use Rattle.messages.proofs.Fields.{varint_ends, numbers_step, numbers_end}
use Rattle.scan.specs.Grammar.{Then, Varint, Varints}
use Rattle.scan.proofs.Firsts.{varints_first}
use Rattle.std.specs.Prelude.{Some, None}
use Rattle.messages.specs.Fields.{VarintAt}

-- ---- a body's bytes, cut at its end and taken from its start
pub drop_take : (start n : ℕ) (l : List ℕ) → drop start (take (start + n) l) ≡ take n (drop start l)
drop_take zero n l = let e : 0 + n ≡ n = omega arith in ap (λ (m : ℕ). take m l) e
drop_take (suc start) n [] = let e : suc start + n ≡ suc (start + n) = omega arith in rw e (sym (take-nil n))
drop_take (suc start) n (b ∷ l) = let e : suc start + n ≡ suc (start + n) = omega arith in rw e (drop_take start n l)

-- ---- what is true at the end, and at each place where it is true at all later ones, is true at every place
module _ (end : ℕ) (A : ℕ → Type 0) (last : A end) (step : (at : ℕ) → at < end → ((next : ℕ) → at < next → next ≤ end → A next) → A at) where
  by_left : (left at : ℕ) → end ≤ at + left → at ≤ end → A at
  by_left zero at h k = let e : end ≡ at = omega (arith, h, k) in subst A e last
  by_left (suc left) at h k = by (ltb at end) refl (λ next l i. by_left left next (omega (arith, h, l)) i)
    where
      by : (b : Bool) → ltb at end ≡ b → ((next : ℕ) → at < next → next ≤ end → A next) → A at
      by true t go = step at (ltb-true at end t) go
      by false t go = let e : end ≡ at = omega (arith, k, ltb-false at end t) in subst A e last

  pub from_end : (at : ℕ) → at ≤ end → A at
  from_end at h = by_left end at (omega arith) h

-- ---- a varint
abbrev pub Next : VarintAt → List ℕ → (ℕ → List ℕ → Type 0) → Type 0
Next (Some (n, next)) src K = K n (drop next src)
Next None src K = ⊥

placed_next : (r : VarintRead) (at : ℕ) (src : List ℕ) (K : ℕ → List ℕ → Type 0) → Then r (drop at src) K ↔ Next (placed at r) src K
placed_next (good n k) at src K = let e = drop-drop k at src in (λ t. subst (K n) e t, λ t. subst (K n) (sym e) t)
placed_next cut at src K = (λ t. t, λ t. t)
placed_next (over place) at src K = (λ t. t, λ t. t)

pub varint_next : (at : ℕ) (src : List ℕ) (K : ℕ → List ℕ → Type 0) → Varint 9 (drop at src) K ↔ Next (varint_at at src) src K
unfolding read_varint varint_at
varint_next at src K = placed_next (read_varint (drop at src)) at src K

-- ---- varints to the end of the bytes
before_read : (n : ℕ) (o : Option (List ℕ)) → is_read (number_before n o) ≡ is_read o
before_read n none = refl
before_read n (some ns) = refl

module _ (src : List ℕ) where
  abbrev Are : ℕ → Type 0
  Are at = (is_read (numbers_from at src) ≡ true) ↔ Varints (drop at src)

  none_left : Are (length src)
  none_left = (λ r. (0, drop-length src), λ v. rw (numbers_end src (length src) (omega arith)) refl)

  module _ (at : ℕ) (h : at < length src) (go : (next : ℕ) → at < next → next ≤ length src → Are next) where
    one_read : (r : VarintAt) → varint_at at src ≡ r → (is_read (number_then r (λ next. numbers_from next src)) ≡ true) ↔ Next r src (λ n x. Varints x)
    one_read (Some (n, next)) e =
        let v = varint_ends e in
        let i = go next v.later v.inside in
        let b = before_read n (numbers_from next src) in
        (λ t. i.0 (sym b ∙ t), λ t. b ∙ i.1 t)
    one_read None e = (λ t. false≢true t, λ t. absurd t)

    one_left : Are at
    one_left =
        let l : 0 < length (drop at src) = omega (arith, h, length-drop at src) in
        let s = Iff.trans (one_read (varint_at at src) refl) (Iff.symm (varint_next at src (λ n x. Varints x))) in
        rw (numbers_step src at h) (Iff.trans s (Iff.symm (varints_first (drop at src) l)))

  pub numbers_are : (at : ℕ) → at ≤ length src → (is_read (numbers_from at src) ≡ true) ↔ Varints (drop at src)
  numbers_are at h = from_end (length src) Are none_left one_left at h
