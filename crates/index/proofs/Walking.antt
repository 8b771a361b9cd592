-- `walk` at each turn of the loops of `walk_keys` and `walk_values`, over any test of the entries.
use Prim.Native.Nat.{ℕ, zero, suc, ◌+◌, ◌-◌, ◌*◌, ◌/◌, ◌%◌, ◌≤◌, ◌<◌}
use mathlib.Core.Path.{◌≡◌, refl, sym, ◌∙◌}
use mathlib.Core.Bool.{Bool, true, false, cond}
use mathlib.Core.List.{List}
use native.Mathlib.Omega.{arith}
use native.Mathlib.Nat.{le_refl, mod-lt}
use lib.ListN.{length, get_or}
use lib.Dec.{eqb}
use borrow.Author.Tests.{ne_eqb, eqb-true, eqb-false}
use Rattle.std.specs.Prelude.{Option, Some, None, SomeIff}
use Rattle.promise.specs.Widened.{Wide}
use Rattle.table.specs.Texts.{same_text}
use Rattle.number.specs.Least.{smaller}
use Rattle.number.proofs.Least.{smaller_le}
use Rattle.index.specs.Chains.{slots, walk, found_at, walked}
use Rattle.index.specs.Entries.{key_at}
use Rattle.index.specs.Steps.{Ahead}

module _ (l : List ℕ) (same : ℕ → Bool) where
  -- an entry that is not below the limit ends the walk
  pub walk_past : (n cur best : ℕ) → n < cur → walk l same n cur best ≡ best
  walk_past zero cur best h = refl
  walk_past (suc j) cur best h = rw (ne_eqb cur (suc j) (λ (e : cur ≡ suc j). omega arith)) (walk_past j cur best (omega arith))

  pub walk_none : (n best : ℕ) → walk l same n 0 best ≡ best
  walk_none zero best = refl
  walk_none (suc j) best = rw (ne_eqb 0 (suc j) (λ (e : 0 ≡ suc j). omega arith)) (walk_none j best)

  -- one that is below it is met
  after : ℕ → ℕ → ℕ
  after j best = walk l same j (get_or l (slots l + j) 0) (cond (same j) (suc j) best)

  met_by : (m j best : ℕ) (t : Bool) → eqb (suc j) (suc m) ≡ t → j < suc m → (j < m → walk l same m (suc j) best ≡ after j best) → cond t (after m best) (walk l same m (suc j) best) ≡ after j best
  met_by m j best true e h ih = let q : m ≡ j = omega (arith, eqb-true (suc j) (suc m) e) in rw q
  met_by m j best false e h ih = ih (omega (arith, eqb-false (suc j) (suc m) e))

  walk_met : (n j best : ℕ) → j < n → walk l same n (suc j) best ≡ after j best
  unfolding after
  walk_met zero j best h = absurd (omega arith)
  walk_met (suc m) j best h = met_by m j best (eqb (suc j) (suc m)) refl h (walk_met m j best)

  pub walk_turn : (n cur j best : ℕ) → cur ≡ suc j → j < n → walk l same n cur best ≡ walk l same j (get_or l (slots l + j) 0) (cond (same j) cur best)
  unfolding after
  walk_turn n cur j best e h = rw e (walk_met n j best h)

pub record Inv (l : List ℕ) (same : ℕ → Bool) (limit head below cur best : ℕ) : Type 0 where
  pub few : below ≤ limit
  pub rest : walk l same limit head 0 ≡ walk l same below cur best

pub begin : (l : List ℕ) (same : ℕ → Bool) (limit head : ℕ) → Inv l same limit head limit head 0
begin l same limit head = record { few = le_refl limit; rest = refl }

module _ (l : List ℕ) (same : ℕ → Bool) (limit head below cur best : ℕ) (I : Inv l same limit head below cur best) where
  pub ends_past : below < cur → best ≡ walk l same limit head 0
  ends_past h = sym (I.rest ∙ walk_past l same below cur best h)

  pub ends_none : cur ≤ 0 → best ≡ walk l same limit head 0
  ends_none h = let z : cur ≡ 0 = omega arith in sym (I.rest ∙ rw z (walk_none l same below best))

  pub turn : 0 < cur → cur ≤ below → (t : Bool) → t ≡ same (cur - 1) → (b : ℕ) → b ≡ cond t cur best → (w : ℕ) → Wide (get_or l (slots l + (cur - 1)) 0) w → Inv l same limit head (cur - 1) w b
  turn p h t e b f w g =
      record {
        few = omega (arith, I.few);
        rest = rw (f, e, g.same) (I.rest ∙ walk_turn l same below cur (cur - 1) best (omega arith) (omega arith));
      }

-- ---- the entry that a turn asks
pub key_asked : (keys texts key : List ℕ) (j start len : ℕ) → Wide (get_or keys (j * 2) 0) start → Wide (get_or keys (j * 2 + 1) 0) len → (t : Bool) → t ≡ same_text texts start len key → t ≡ key_at keys texts key j
key_asked keys texts key j start len a b t e = rw (← a.same, ← b.same) e

-- ---- `key_pos`, `val_pos`
pub found_is : (w : ℕ) (r : Option ℕ) → SomeIff r (1 ≤ w) (w - 1) → r ≡ found_at w
found_is zero None h = refl
found_is zero (Some j) h = absurd (omega (arith, h.0))
found_is (suc n) None h = absurd (h (omega arith))
found_is (suc n) (Some j) h = let e : j ≡ n = omega (arith, h.1) in rw e

pub ahead_keys : (index keys : List ℕ) (limit : ℕ) → limit ≡ smaller (length keys / 2) (slots index) → Ahead limit (length index) 2 (length keys)
ahead_keys index keys limit e = let r = smaller_le (length keys / 2) (slots index) in record { linked = omega (arith, r.1); listed = omega (arith, r.0) }

pub ahead_values : (index values : List ℕ) (limit : ℕ) → limit ≡ smaller (length values / 3) (slots index) → Ahead limit (length index) 3 (length values)
ahead_values index values limit e = let r = smaller_le (length values / 3) (slots index) in record { linked = omega (arith, r.1); listed = omega (arith, r.0) }

-- no slots, no entry
pub walked_nowhere : (l : List ℕ) (same : ℕ → Bool) (n h : ℕ) → slots l ≡ 0 → None ≡ walked l same n h
walked_nowhere l same n h e =
    let z : smaller n (slots l) ≡ 0 = omega (arith, (smaller_le n (slots l)).1) in
    rw z

pub in_slots : (l : List ℕ) (h : ℕ) → (slots l ≡ 0 → ⊥) → h % slots l < length l
in_slots l h e = omega (arith, mod-lt h {m = slots l} (omega arith))

pub walked_is : (l : List ℕ) (same : ℕ → Bool) (n h limit : ℕ) → limit ≡ smaller n (slots l) → (head : ℕ) → Wide (get_or l (h % slots l) 0) head → (w : ℕ) → w ≡ walk l same limit head 0 → (r : Option ℕ) → r ≡ found_at w → r ≡ walked l same n h
walked_is l same n h limit e head g w f r q = rw (q, f, e, g.same)

-- what is found is among the entries
best_le : (t : Bool) (j best top : ℕ) → j < top → best ≤ top → cond t (suc j) best ≤ top
best_le true j best top a b = omega arith
best_le false j best top a b = b

walk_by : (t : Bool) (x y top : ℕ) → x ≤ top → y ≤ top → cond t x y ≤ top
walk_by true x y top a b = a
walk_by false x y top a b = b

walk_le : (l : List ℕ) (same : ℕ → Bool) (top n cur best : ℕ) → n ≤ top → best ≤ top → walk l same n cur best ≤ top
walk_le l same top zero cur best a b = b
walk_le l same top (suc j) cur best a b =
    walk_by (eqb cur (suc j)) (walk l same j (get_or l (slots l + j) 0) (cond (same j) (suc j) best)) (walk l same j cur best) top
    (walk_le l same top j (get_or l (slots l + j) 0) (cond (same j) (suc j) best) (omega arith) (best_le (same j) j best top (omega arith) b))
    (walk_le l same top j cur best (omega arith) b)

found_below : (n i : ℕ) → found_at n ≡ Some i → i < n
found_below zero i e = absurd (let z : ◌≡◌ {A = ℕ} 0 1 = cc in omega arith)
found_below (suc n) i e = let q : n ≡ i = cc in omega arith

pub walked_below : (l : List ℕ) (same : ℕ → Bool) (n h i : ℕ) → walked l same n h ≡ Some i → i < n
walked_below l same n h i e =
    let w : ℕ = walk l same (smaller n (slots l)) (get_or l (h % slots l) 0) 0 in
    let a = walk_le l same n (smaller n (slots l)) (get_or l (h % slots l) 0) 0 (smaller_le n (slots l)).0 (omega arith) in
    omega (arith, a, found_below w i e)
