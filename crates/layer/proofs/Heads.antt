-- A lent list of heads, six words at a time: `heads_ok` at each turn of a loop.
use Prim.Native.Nat.{ℕ, ◌+◌, ◌-◌, ◌≤◌, ◌<◌, zero-le}
use mathlib.Core.Path.{◌≡◌, refl, sym, ◌∙◌}
use mathlib.Core.Bool.{Bool, true, false, cond, not, ◌&&◌}
use mathlib.Core.List.{List, [], ◌∷◌}
use native.Mathlib.Omega.{arith}
use lib.ListN.{length, get_or, drop, drop_of_length-le, length-drop}
use lib.Dec.{leb, eqb}
use borrow.Author.Tests.{leb-true, leb-false, not-true, not-false}
use Rattle.whole.specs.Twos.{wide}
use Rattle.promise.proofs.Joined.{cond_both}
use Rattle.promise.proofs.Steps.{next}
use Rattle.layer.proofs.Fitting.{both}
use Rattle.layer.specs.declared.whole_feature.Head.{Head}
use Rattle.layer.specs.Many.{head_at, head_ok, heads_ok}

pub the_head : (hs : List ℕ) (i x : ℕ) → x ≡ wide (get_or hs (i + 2) 0) (get_or hs (i + 3) 0) → ◌≡◌ {A = Head} (record { kind = get_or hs i 0; has_id = eqb (get_or hs (i + 1) 0) 1; id = x }) (head_at hs i)
the_head hs i x e = rw e

pub six : (hs : List ℕ) (i : ℕ) → i + 6 ≤ length hs → drop i hs ≡ get_or hs i 0 ∷ get_or hs (i + 1) 0 ∷ get_or hs (i + 2) 0 ∷ get_or hs (i + 3) 0 ∷ get_or hs (i + 4) 0 ∷ get_or hs (i + 5) 0 ∷ drop (i + 6) hs
six hs i h =
    rw (
      next hs i (i + 1) (omega arith) (omega arith),
      next hs (i + 1) (i + 2) (omega arith) (omega arith),
      next hs (i + 2) (i + 3) (omega arith) (omega arith),
      next hs (i + 3) (i + 4) (omega arith) (omega arith),
      next hs (i + 4) (i + 5) (omega arith) (omega arith),
      next hs (i + 5) (i + 6) (omega arith) (omega arith),
    )

few : (words tags : ℕ) (l : List ℕ) → 0 < length l → length l < 6 → heads_ok words tags l ≡ false
few words tags [] z h = absurd (omega arith)
few words tags (a ∷ []) z h = refl
few words tags (a ∷ b ∷ []) z h = refl
few words tags (a ∷ b ∷ c ∷ []) z h = refl
few words tags (a ∷ b ∷ c ∷ d ∷ []) z h = refl
few words tags (a ∷ b ∷ c ∷ d ∷ e ∷ []) z h = refl
few words tags (a ∷ b ∷ c ∷ d ∷ e ∷ f ∷ l) z h = absurd (omega arith)

-- the test of the six words at an index
abbrev ok_at : ℕ → ℕ → List ℕ → ℕ → Bool
ok_at words tags hs i = head_ok words tags (get_or hs (i + 1) 0) (get_or hs (i + 4) 0) (get_or hs (i + 5) 0)

step : (words tags : ℕ) (hs : List ℕ) (i : ℕ) → i + 6 ≤ length hs →
    heads_ok words tags (drop i hs) ≡ cond (ok_at words tags hs i) (heads_ok (words - get_or hs (i + 4) 0) (tags - get_or hs (i + 5) 0) (drop (i + 6) hs)) false
step words tags hs i h = rw (six hs i h)

-- ---- the loop that tests the list
pub record Inv (words tags : ℕ) (hs : List ℕ) (i w t : ℕ) : Type 0 where
  pub at : i ≤ length hs
  pub rest : heads_ok words tags hs ≡ heads_ok w t (drop i hs)

pub start : (words tags : ℕ) (hs : List ℕ) → Inv words tags hs 0 words tags
start words tags hs = record { at = zero-le; rest = refl }

module _ (words tags : ℕ) (hs : List ℕ) (i w t : ℕ) (I : Inv words tags hs i w t) where
  pub ends_short : i < length hs → length hs - i < 6 → false ≡ heads_ok words tags hs
  ends_short z h = rw (I.rest, few w t (drop i hs) (rw length-drop (omega arith)) (rw length-drop h))

  pub ends : length hs ≤ i → (eqb w 0 && eqb t 0) ≡ heads_ok words tags hs
  ends h = rw (I.rest, drop_of_length-le hs {i = i} h)

  module _ (a b : ℕ) (p : a ≡ get_or hs (i + 4) 0) (q : b ≡ get_or hs (i + 5) 0) (h : 6 ≤ length hs - i) where
    as_tested : (leb (get_or hs (i + 1) 0) 1 && (leb a w && leb b t)) ≡ ok_at w t hs i
    as_tested = rw (p, q)

    pub past : not (leb (get_or hs (i + 1) 0) 1 && (leb a w && leb b t)) ≡ true → false ≡ heads_ok words tags hs
    past y = rw (I.rest, step w t hs i (omega arith), ← as_tested, not-true (leb (get_or hs (i + 1) 0) 1 && (leb a w && leb b t)) y)

    module _ (n : not (leb (get_or hs (i + 1) 0) 1 && (leb a w && leb b t)) ≡ false) where
      there : (leb a w ≡ true) × (leb b t ≡ true)
      there = both (leb a w) (leb b t) (both (leb (get_or hs (i + 1) 0) 1) (leb a w && leb b t) (not-false (leb (get_or hs (i + 1) 0) 1 && (leb a w && leb b t)) n)).1

      pub words_there : a ≤ w
      words_there = leb-true a w there.0

      pub tags_there : b ≤ t
      tags_there = leb-true b t there.1

      pub further : Inv words tags hs (i + 6) (w - a) (t - b)
      further = record { at = omega arith; rest = I.rest ∙ step w t hs i (omega arith) ∙ rw (← as_tested, not-false (leb (get_or hs (i + 1) 0) 1 && (leb a w && leb b t)) n, p, q) }

-- ---- of a list that is one: the six words at an index, and the rest
module _ (w t : ℕ) (hs : List ℕ) (i : ℕ) (e : heads_ok w t (drop i hs) ≡ true) (h : i < length hs) where
  pub six_left : i + 6 ≤ length hs
  six_left = by (leb (i + 6) (length hs)) refl
    where
      by : (b : Bool) → leb (i + 6) (length hs) ≡ b → i + 6 ≤ length hs
      by true q = leb-true (i + 6) (length hs) q
      by false q =
          let k = leb-false (i + 6) (length hs) q in
          let n : heads_ok w t (drop i hs) ≡ false = few w t (drop i hs) (rw length-drop (omega arith)) (rw length-drop (omega arith)) in
          absurd (let z : ◌≡◌ {A = ℕ} 0 1 = cc in omega arith)

  both_ok : (ok_at w t hs i ≡ true) × (heads_ok (w - get_or hs (i + 4) 0) (t - get_or hs (i + 5) 0) (drop (i + 6) hs) ≡ true)
  both_ok = cond_both (ok_at w t hs i) (heads_ok (w - get_or hs (i + 4) 0) (t - get_or hs (i + 5) 0) (drop (i + 6) hs)) (sym (step w t hs i six_left) ∙ e)

  counts_in : (leb (get_or hs (i + 4) 0) w ≡ true) × (leb (get_or hs (i + 5) 0) t ≡ true)
  counts_in = both (leb (get_or hs (i + 4) 0) w) (leb (get_or hs (i + 5) 0) t) (both (leb (get_or hs (i + 1) 0) 1) (leb (get_or hs (i + 4) 0) w && leb (get_or hs (i + 5) 0) t) both_ok.0).1

  pub words_in : get_or hs (i + 4) 0 ≤ w
  words_in = leb-true (get_or hs (i + 4) 0) w counts_in.0

  pub tags_in_lem : get_or hs (i + 5) 0 ≤ t
  tags_in_lem = leb-true (get_or hs (i + 5) 0) t counts_in.1

  pub ok_after : heads_ok (w - get_or hs (i + 4) 0) (t - get_or hs (i + 5) 0) (drop (i + 6) hs) ≡ true
  ok_after = both_ok.1
