-- `record_end` at each return of the function that computes it, and `records_in` at each turn of the loop of `count`, over plain lists
-- and numbers.
use Prim.Native.Nat.{ℕ, zero, suc, ◌+◌, ◌-◌, ◌≤◌, ◌<◌, zero-le}
use mathlib.Core.Path.{◌≡◌, refl, sym, ap, ◌∙◌}
use mathlib.Core.Bool.{Bool, true, false, cond, not}
use mathlib.Core.List.{List, [], ◌∷◌}
use native.Mathlib.Numerals.{add-one}
use native.Mathlib.Omega.{arith}
use lib.ListN.{length, get_or, drop, drop_of_length-le, length-drop}
use lib.Seq.{drop-drop, get_or-drop}
use lib.Dec.{leb}
use borrow.Author.Tests.{not-true, not-false, le-leb, lt-leb, leb-true, leb-false}
use Rattle.std.specs.Prelude.{Option, Some, None}
use Rattle.promise.specs.Widened.{Wide}
use Rattle.records.specs.Records.{head_ok, records_in, record_length, end_from, record_end}

-- ---- two tests that say the same
leb_by : (a b c d : ℕ) → (a ≤ b → c ≤ d) → (b < a → d < c) → (t : Bool) → leb a b ≡ t → t ≡ leb c d
leb_by a b c d f g true e = sym (le-leb c d (f (leb-true a b e)))
leb_by a b c d f g false e = sym (lt-leb c d (g (leb-false a b e)))

pub leb_same : (a b c d : ℕ) → (a ≤ b → c ≤ d) → (b < a → d < c) → leb a b ≡ leb c d
leb_same a b c d f g = leb_by a b c d f g (leb a b) refl

-- ---- the six words at the front
few : (l : List ℕ) → length l < 6 → record_length l ≡ None
few [] h = refl
few (a ∷ []) h = refl
few (a ∷ b ∷ []) h = refl
few (a ∷ b ∷ c ∷ []) h = refl
few (a ∷ b ∷ c ∷ d ∷ []) h = refl
few (a ∷ b ∷ c ∷ d ∷ e ∷ []) h = refl
few (a ∷ b ∷ c ∷ d ∷ e ∷ f ∷ l) h = absurd (omega arith)

six : (l : List ℕ) → 6 ≤ length l → record_length l ≡ cond (head_ok (get_or l 0 0) (get_or l 1 0)) (cond (leb (6 + get_or l 4 0 + get_or l 5 0) (length l)) (Some (6 + get_or l 4 0 + get_or l 5 0)) None) None
six [] h = absurd (omega arith)
six (a ∷ []) h = absurd (omega arith)
six (a ∷ b ∷ []) h = absurd (omega arith)
six (a ∷ b ∷ c ∷ []) h = absurd (omega arith)
six (a ∷ b ∷ c ∷ d ∷ []) h = absurd (omega arith)
six (a ∷ b ∷ c ∷ d ∷ e ∷ []) h = absurd (omega arith)
six (a ∷ b ∷ c ∷ d ∷ e ∷ f ∷ l) h = ap (λ (x : Bool). cond (head_ok a b) (cond x (Some (6 + e + f)) None) None) (leb_same (e + f) (length l) (6 + e + f) (length (a ∷ b ∷ c ∷ d ∷ e ∷ f ∷ l)) (λ g. omega arith) (λ g. omega arith))

-- ---- `record_end`
word : (ws : List ℕ) (i k j : ℕ) → i + k ≡ j → get_or (drop i ws) k 0 ≡ get_or ws j 0
word ws i k j e = get_or-drop i ws k 0 ∙ ap (λ (n : ℕ). get_or ws n 0) e

module _ (ws : List ℕ) (i : ℕ) where
  pub end_short : length ws < 6 → None ≡ record_end ws i
  end_short h = rw (few (drop i ws) (rw length-drop (omega arith)))

  pub end_far : 6 ≤ length ws → length ws - 6 < i → None ≡ record_end ws i
  end_far h k = rw (few (drop i ws) (rw length-drop (omega arith)))

  module _ (h : 6 ≤ length ws) (k : i ≤ length ws - 6) (r : Bool) (g : r ≡ head_ok (get_or ws i 0) (get_or ws (i + 1) 0)) where
    front : record_length (drop i ws) ≡ cond r (cond (leb (6 + get_or ws (i + 4) 0 + get_or ws (i + 5) 0) (length ws - i)) (Some (6 + get_or ws (i + 4) 0 + get_or ws (i + 5) 0)) None) None
    front =
        six (drop i ws) (rw length-drop (omega arith))
        ∙ rw (word ws i 0 i (omega arith), word ws i 1 (i + 1) refl, word ws i 4 (i + 4) refl, word ws i 5 (i + 5) refl, length-drop, g)

    pub end_head : not r ≡ true → None ≡ record_end ws i
    end_head n = rw (front, not-true r n)

    module _ (n : not r ≡ false) (tags geometry : ℕ) (a : Wide (get_or ws (i + 4) 0) tags) (b : Wide (get_or ws (i + 5) 0) geometry) where
      pub end_cut : length ws - i < 6 + tags + geometry → None ≡ record_end ws i
      end_cut l = rw (front, not-false r n, ← a.same, ← b.same, lt-leb _ _ l)

      pub end_at : 6 + tags + geometry ≤ length ws - i → Some (i + (6 + tags + geometry)) ≡ record_end ws i
      end_at l = rw (front, not-false r n, ← a.same, ← b.same, le-leb _ _ l)

-- ---- the loop of `count`
-- words still to come are there, and then the records go on
pub skip : (n left : ℕ) (l : List ℕ) → records_in n left l ≡ cond (leb left (length l)) (records_in n 0 (drop left l)) None
skip n zero l = rw (le-leb 0 (length l) zero-le)
skip n (suc left) [] = rw (lt-leb (suc left) 0 (omega arith))
skip n (suc left) (w ∷ l) = skip n left l ∙ ap (λ (b : Bool). cond b (records_in n 0 (drop left l)) None) (leb_same left (length l) (suc left) (suc (length l)) (λ h. omega arith) (λ h. omega arith))

-- one record, and those behind it
abbrev onward : ℕ → List ℕ → Option ℕ → Option ℕ
onward n l (Some k) = records_in (n + 1) 0 (drop k l)
onward n l None = None

one : (n : ℕ) (l : List ℕ) → 0 < length l → records_in n 0 l ≡ onward n l (record_length l)
one n [] h = absurd (omega arith)
one n (a ∷ []) h = refl
one n (a ∷ b ∷ []) h = refl
one n (a ∷ b ∷ c ∷ []) h = refl
one n (a ∷ b ∷ c ∷ d ∷ []) h = refl
one n (a ∷ b ∷ c ∷ d ∷ e ∷ []) h = refl
one n (a ∷ b ∷ c ∷ d ∷ e ∷ f ∷ l) h = by (head_ok a b) (leb (e + f) (length l)) refl
  where
    by : (x y : Bool) → leb (e + f) (length l) ≡ y → cond x (records_in (suc n) (e + f) l) None ≡ onward n (a ∷ b ∷ c ∷ d ∷ e ∷ f ∷ l) (cond x (cond y (Some (6 + e + f)) None) None)
    by false y p = refl
    by true true p =
        let z : 6 + e + f ≡ suc (suc (suc (suc (suc (suc (e + f)))))) = omega arith in
        skip (suc n) (e + f) l ∙ rw (p, z, add-one n)
    by true false p = skip (suc n) (e + f) l ∙ rw p

pub record Inv (ws : List ℕ) (i n : ℕ) : Type 0 where
  pub at : i ≤ length ws
  pub few : n ≤ i
  pub rest : records_in 0 0 ws ≡ records_in n 0 (drop i ws)

pub start : (ws : List ℕ) → Inv ws 0 0
start ws = record { at = zero-le; few = zero-le; rest = refl }

-- a record that stands there is at least six words and ends within the list
record Long (l : List ℕ) (k : ℕ) : Type 0 where
  some : 6 ≤ k
  within : k ≤ length l

whole : (l : List ℕ) (k : ℕ) → record_length l ≡ Some k → Long l k
whole [] k e = absurd (let z : ◌≡◌ {A = ℕ} 0 1 = cc in omega arith)
whole (a ∷ []) k e = absurd (let z : ◌≡◌ {A = ℕ} 0 1 = cc in omega arith)
whole (a ∷ b ∷ []) k e = absurd (let z : ◌≡◌ {A = ℕ} 0 1 = cc in omega arith)
whole (a ∷ b ∷ c ∷ []) k e = absurd (let z : ◌≡◌ {A = ℕ} 0 1 = cc in omega arith)
whole (a ∷ b ∷ c ∷ d ∷ []) k e = absurd (let z : ◌≡◌ {A = ℕ} 0 1 = cc in omega arith)
whole (a ∷ b ∷ c ∷ d ∷ f ∷ []) k e = absurd (let z : ◌≡◌ {A = ℕ} 0 1 = cc in omega arith)
whole (a ∷ b ∷ c ∷ d ∷ f ∷ g ∷ l) k e = by (head_ok a b) (leb (f + g) (length l)) refl e
  where
    by : (x y : Bool) → leb (f + g) (length l) ≡ y → cond x (cond y (Some (6 + f + g)) None) None ≡ Some k → Long (a ∷ b ∷ c ∷ d ∷ f ∷ g ∷ l) k
    by false y p q = absurd (let z : ◌≡◌ {A = ℕ} 0 1 = cc in omega arith)
    by true false p q = absurd (let z : ◌≡◌ {A = ℕ} 0 1 = cc in omega arith)
    by true true p q = let z : 6 + f + g ≡ k = cc in record { some = omega arith; within = omega (arith, leb-true (f + g) (length l) p) }

-- what an end says of the record
at_end : (i e : ℕ) (f : Option ℕ) → Some e ≡ end_from i f → (k : ℕ) × ((f ≡ Some k) × (e ≡ i + k))
at_end i e (Some k) h = (k, (refl, cc))
at_end i e None h = absurd (let z : ◌≡◌ {A = ℕ} 0 1 = cc in omega arith)

no_end : (i : ℕ) (f : Option ℕ) → None ≡ end_from i f → f ≡ None
no_end i (Some k) h = absurd (let z : ◌≡◌ {A = ℕ} 0 1 = cc in omega arith)
no_end i None h = refl

module _ (ws : List ℕ) (i n : ℕ) (I : Inv ws i n) (h : i < length ws) where
  turn : records_in 0 0 ws ≡ onward n (drop i ws) (record_length (drop i ws))
  turn = I.rest ∙ one n (drop i ws) (rw length-drop (omega arith))

  pub no_record : (r : Option ℕ) → r ≡ record_end ws i → r ≡ None → None ≡ records_in 0 0 ws
  no_record r g e = rw (turn, no_end i (record_length (drop i ws)) (sym e ∙ g))

  module _ (r : Option ℕ) (g : r ≡ record_end ws i) (e : ℕ) (f : r ≡ Some e) where
    went : (k : ℕ) → record_length (drop i ws) ≡ Some k → e ≡ i + k → Inv ws e (n + 1)
    went k p q =
        let L = whole (drop i ws) k p in
        let m : k ≤ length ws - i = rw length-drop at L.within in
        record { at = omega arith; few = omega (arith, L.some); rest = rw (p, drop-drop, ← q) at turn }

    pub goes_on : Inv ws e (n + 1)
    goes_on = let (k, p) = at_end i e (record_length (drop i ws)) (sym f ∙ g) in went k p.0 p.1

    pub gets_on : length ws - e < length ws - i
    gets_on = let (k, p) = at_end i e (record_length (drop i ws)) (sym f ∙ g) in omega (arith, (whole (drop i ws) k p.0).some, p.1)

pub all_follow : (ws : List ℕ) (i n : ℕ) → Inv ws i n → length ws ≤ i → Some n ≡ records_in 0 0 ws
all_follow ws i n I h = rw (I.rest, drop_of_length-le ws {i = i} h)
