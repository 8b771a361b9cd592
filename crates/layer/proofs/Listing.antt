-- A lent list of tags, five words at a time: the tests of each tag of such a list.
use Prim.Native.Nat.{ℕ, ◌+◌, ◌≤◌, ◌<◌}
use mathlib.Core.Path.{◌≡◌, refl, sym, ◌∙◌}
use mathlib.Core.Bool.{Bool, true, false, cond, not, ◌&&◌}
use mathlib.Core.List.{List, [], ◌∷◌}
use native.Mathlib.Omega.{arith}
use lib.ListN.{length, get_or, drop, drop_of_length-le, length-drop}
use lib.Dec.{leb}
use borrow.Author.Tests.{leb-true, leb-false, not-true, not-false}
use Rattle.table.specs.Values.{value_ok, values_in}
use Rattle.promise.proofs.Joined.{cond_both}
use Rattle.promise.proofs.Steps.{next}
use Rattle.layer.specs.TagLists.{tag_ok, tags_ok, ok_at, short_at, tags_short}

-- one value as a list of values
one_value : (bytes kind low high : ℕ) → values_in bytes (kind ∷ low ∷ high ∷ []) ≡ value_ok bytes kind low high
one_value bytes kind low high = by (value_ok bytes kind low high)
  where
    by : (t : Bool) → cond t true false ≡ t
    by true = refl
    by false = refl

module _ (bytes start len kind low high : ℕ) (s l : ℕ) (a b : Bool) where
  pub tag_tested : s ≡ start → l ≡ len → a ≡ leb (s + l) bytes → b ≡ values_in bytes (kind ∷ low ∷ high ∷ []) → (a && b) ≡ tag_ok bytes start len kind low high
  tag_tested p q g h = rw (g, h, p, q, one_value bytes kind low high)

pub five : (ws : List ℕ) (i : ℕ) → i + 5 ≤ length ws → drop i ws ≡ get_or ws i 0 ∷ get_or ws (i + 1) 0 ∷ get_or ws (i + 2) 0 ∷ get_or ws (i + 3) 0 ∷ get_or ws (i + 4) 0 ∷ drop (i + 5) ws
five ws i h =
    rw (
      next ws i (i + 1) (omega arith) (omega arith),
      next ws (i + 1) (i + 2) (omega arith) (omega arith),
      next ws (i + 2) (i + 3) (omega arith) (omega arith),
      next ws (i + 3) (i + 4) (omega arith) (omega arith),
      next ws (i + 4) (i + 5) (omega arith) (omega arith),
    )

few : (bytes : ℕ) (l : List ℕ) → 0 < length l → length l < 5 → tags_ok bytes l ≡ false
few bytes [] z h = absurd (omega arith)
few bytes (a ∷ []) z h = refl
few bytes (a ∷ b ∷ []) z h = refl
few bytes (a ∷ b ∷ c ∷ []) z h = refl
few bytes (a ∷ b ∷ c ∷ d ∷ []) z h = refl
few bytes (a ∷ b ∷ c ∷ d ∷ e ∷ l) z h = absurd (omega arith)

pub step : (bytes : ℕ) (ws : List ℕ) (i : ℕ) → i + 5 ≤ length ws → tags_ok bytes (drop i ws) ≡ cond (ok_at bytes ws i) (tags_ok bytes (drop (i + 5) ws)) false
step bytes ws i h = rw (five ws i h)

-- of a list that is one: the five words at an index, and the rest
module _ (bytes : ℕ) (ws : List ℕ) (i : ℕ) (e : tags_ok bytes (drop i ws) ≡ true) (h : i < length ws) where
  pub five_left : i + 5 ≤ length ws
  five_left = by (leb (i + 5) (length ws)) refl
    where
      by : (t : Bool) → leb (i + 5) (length ws) ≡ t → i + 5 ≤ length ws
      by true q = leb-true (i + 5) (length ws) q
      by false q =
          let k = leb-false (i + 5) (length ws) q in
          let n : tags_ok bytes (drop i ws) ≡ false = few bytes (drop i ws) (rw length-drop (omega arith)) (rw length-drop (omega arith)) in
          absurd (let z : ◌≡◌ {A = ℕ} 0 1 = cc in omega arith)

  both_ok : (ok_at bytes ws i ≡ true) × (tags_ok bytes (drop (i + 5) ws) ≡ true)
  both_ok = cond_both (ok_at bytes ws i) (tags_ok bytes (drop (i + 5) ws)) (sym (step bytes ws i five_left) ∙ e)

  pub ok_at_lem : ok_at bytes ws i ≡ true
  ok_at_lem = both_ok.0

  pub ok_after : tags_ok bytes (drop (i + 5) ws) ≡ true
  ok_after = both_ok.1

-- ---- a test of every tag of a list, tag by tag: all of them pass where those from i on do
pub record Each (bytes : ℕ) (ws : List ℕ) (all : List ℕ → Bool) (i : ℕ) : Type 0 where
  pub list : tags_ok bytes (drop i ws) ≡ true
  pub rest : all ws ≡ all (drop i ws)

module _ {bytes : ℕ} {ws : List ℕ} {all : List ℕ → Bool} where
  pub each_start : tags_ok bytes ws ≡ true → Each bytes ws all 0
  each_start e = record { list = e; rest = refl }

  module _ {i : ℕ} (E : Each bytes ws all i) where
    pub each_room : i < length ws → i + 5 ≤ length ws
    each_room h = five_left bytes ws i E.list h

    pub each_ok : i < length ws → ok_at bytes ws i ≡ true
    each_ok h = ok_at_lem bytes ws i E.list h

    pub each_done : all [] ≡ true → length ws ≤ i → true ≡ all ws
    each_done e h = sym (E.rest ∙ rw (drop_of_length-le ws {i = i} h) e)

    module _ (h : i < length ws) (b : Bool) (s : all (drop i ws) ≡ cond b (all (drop (i + 5) ws)) false) (t : Bool) (g : t ≡ b) where
      pub each_fails : not t ≡ true → false ≡ all ws
      each_fails y = sym (E.rest ∙ s ∙ rw (← g, not-true t y))

      pub each_on : not t ≡ false → Each bytes ws all (i + 5)
      each_on n = record { list = ok_after bytes ws i E.list h; rest = E.rest ∙ s ∙ rw (← g, not-false t n) }

-- ---- TEXT
pub short_step : (ws : List ℕ) (i : ℕ) → i + 5 ≤ length ws → tags_short (drop i ws) ≡ cond (short_at ws i) (tags_short (drop (i + 5) ws)) false
short_step ws i h = rw (five ws i h)

-- of a list whose tags are short: the five words at an index, and the rest
module _ (ws : List ℕ) (i : ℕ) (e : tags_short (drop i ws) ≡ true) (h : i + 5 ≤ length ws) where
  pub short_at_lem : short_at ws i ≡ true
  short_at_lem = (cond_both (short_at ws i) (tags_short (drop (i + 5) ws)) (sym (short_step ws i h) ∙ e)).0

  pub short_after : tags_short (drop (i + 5) ws) ≡ true
  short_after = (cond_both (short_at ws i) (tags_short (drop (i + 5) ws)) (sym (short_step ws i h) ∙ e)).1
