-- The loops over a list cut into pieces: each piece is the words at its index, and each turn goes on behind them.
use Rattle.std.proofs.Math.Nat.{suc-mul, add_comm}
use Prim.Native.Nat.{ℕ, zero, suc, ◌+◌, ◌-◌, ◌*◌, ◌/◌, ◌%◌, ◌≤◌, ◌<◌}
use mathlib.Core.Path.{◌≡◌, refl, ap, subst, ◌∙◌}
use mathlib.Core.Bool.{Bool, true, false, not, ◌&&◌}
use mathlib.Core.List.{List, [], ◌∷◌}
use native.Mathlib.Omega.{arith}
use lib.ListN.{length, get_or, take, drop}
use lib.Seq.{drop-drop}
use lib.Dec.{leb, eqb}
use borrow.Author.Tests.{leb-true, leb-false, eqb-true, eqb-false}
use Rattle.std.specs.Simd.{first_chunks}
use Rattle.layer.specs.declared.Figures.{Figures}
use Rattle.layer.specs.Held.{fits}
use Rattle.layer.specs.TagLists.{ok_at, tag_at, tag_utf8}
use Rattle.layer.specs.Many.{heads_ok}
use Rattle.layer.specs.NeedSteps.{most_of, walked, step_at, Capped, MostAsked}
use Rattle.layer.proofs.Listing.{five, Each, each_room, each_ok, each_done, each_fails, each_on}
use Rattle.layer.proofs.Scanning.{all_utf8, utf8_step}
use Rattle.layer.proofs.Heads.{six, Inv, ends_short, ends, past, words_there, tags_there, further}
use Rattle.layer.proofs.Walking.{Walks, walks_on, walks_done, most_asked}

chunk_at : (n c k : ℕ) (xs : List ℕ) → k < c → get_or (first_chunks n c xs) k [] ≡ take n (drop (k * n) xs)
chunk_at n zero k xs h = absurd (omega arith)
chunk_at n (suc c) zero xs h = let z : 0 * n ≡ 0 = omega arith in rw z
chunk_at n (suc c) (suc k) xs h = chunk_at n c k (drop n xs) (omega arith) ∙ rw (drop-drop (k * n) n xs, suc-mul k n, add_comm n (k * n))

five_at : (ws : List ℕ) (k : ℕ) → k < length ws / 5 → get_or (first_chunks 5 (length ws / 5) ws) k [] ≡ get_or ws (k * 5) 0 ∷ get_or ws (k * 5 + 1) 0 ∷ get_or ws (k * 5 + 2) 0 ∷ get_or ws (k * 5 + 3) 0 ∷ get_or ws (k * 5 + 4) 0 ∷ []
five_at ws k h = chunk_at 5 (length ws / 5) k ws h ∙ ap (take 5) (five ws (k * 5) (omega arith))

six_at : (hs : List ℕ) (k : ℕ) → k < length hs / 6 → get_or (first_chunks 6 (length hs / 6) hs) k [] ≡ get_or hs (k * 6) 0 ∷ get_or hs (k * 6 + 1) 0 ∷ get_or hs (k * 6 + 2) 0 ∷ get_or hs (k * 6 + 3) 0 ∷ get_or hs (k * 6 + 4) 0 ∷ get_or hs (k * 6 + 5) 0 ∷ []
six_at hs k h = chunk_at 6 (length hs / 6) k hs h ∙ ap (take 6) (six hs (k * 6) (omega arith))

-- ---- UTF8
module _ {bytes ws : List ℕ} {k : ℕ} (E : Each (length bytes) ws (all_utf8 bytes) (k * 5)) where
  pub utf8_done : length ws / 5 ≤ k → true ≡ all_utf8 bytes ws
  utf8_done h = each_done E refl (by (leb (length ws) (k * 5)) refl)
    where
      by : (b : Bool) → leb (length ws) (k * 5) ≡ b → length ws ≤ k * 5
      by true q = leb-true (length ws) (k * 5) q
      by false q = let r = each_room E (leb-false (length ws) (k * 5) q) in absurd (omega arith)

  module _ (h : k < length ws / 5) where
    pub utf8_asked : ok_at (length bytes) (get_or (first_chunks 5 (length ws / 5) ws) k []) 0 ≡ true
    utf8_asked = rw (five_at ws k h) (each_ok E (omega arith))

    module _ (r : Bool) (g : r ≡ tag_utf8 (tag_at bytes (get_or (first_chunks 5 (length ws / 5) ws) k []) 0)) where
      told : r ≡ tag_utf8 (tag_at bytes ws (k * 5))
      told = g ∙ ap (λ (l : List ℕ). tag_utf8 (tag_at bytes l 0)) (five_at ws k h)

      pub utf8_fails : not r ≡ true → false ≡ all_utf8 bytes ws
      utf8_fails y = each_fails E (omega arith) _ (utf8_step bytes ws (k * 5) (omega arith)) r told y

      pub utf8_on : not r ≡ false → Each (length bytes) ws (all_utf8 bytes) ((k + 1) * 5)
      utf8_on n =
          let e : k * 5 + 5 ≡ (k + 1) * 5 = omega arith in
          subst (λ (i : ℕ). Each (length bytes) ws (all_utf8 bytes) i) e (each_on E (omega arith) _ (utf8_step bytes ws (k * 5) (omega arith)) r told n)

-- ---- room for the most
module _ {ws : List ℕ} {w : Figures} {k : ℕ} {u : Figures} (I : Walks most_of ws w (k * 5) u) where
  pub walks_end : length ws / 5 ≤ k → (room : Figures) (b : Bool) → b ≡ fits u room → b ≡ fits (walked most_of [] ws w) room
  walks_end h room b g = walks_done most_of ws w (k * 5) u I room (omega (arith, I.at)) b g

  module _ (h : k < length ws / 5) where
    pub most_asked_in : (room : Figures) (b : Bool) → b ≡ fits u room → not b ≡ false → Capped room → MostAsked u (get_or (first_chunks 5 (length ws / 5) ws) k []) 0
    most_asked_in room b g y c =
        let A = most_asked most_of ws w (k * 5) u I (omega (arith, I.at)) room b g y c in
        rw (five_at ws k h) (record { words = omega arith; short = A.short; capped = A.capped })

    pub walks_turn : (x : Figures) → x ≡ step_at most_of (get_or (first_chunks 5 (length ws / 5) ws) k []) 0 u → Walks most_of ws w ((k + 1) * 5) x
    walks_turn x g =
        let e : k * 5 + 5 ≡ (k + 1) * 5 = omega arith in
        let q : x ≡ step_at most_of ws (k * 5) u = g ∙ ap (λ (l : List ℕ). step_at most_of l 0 u) (five_at ws k h) in
        subst (λ (i : ℕ). Walks most_of ws w i x) e (walks_on most_of ws w (k * 5) u I (omega (arith, I.at)) x q)

-- ---- heads
module _ {words tags : ℕ} {hs : List ℕ} {k w t : ℕ} (I : Inv words tags hs (k * 6) w t) where
  pub heads_end : length hs / 6 ≤ k → k ≤ length hs / 6 → (b : Bool) → b ≡ eqb (length hs % 6) 0 → (b && (eqb w 0 && eqb t 0)) ≡ heads_ok words tags hs
  heads_end h l b g = rw g (by (eqb (length hs % 6) 0) refl)
    where
      by : (c : Bool) → eqb (length hs % 6) 0 ≡ c → (c && (eqb w 0 && eqb t 0)) ≡ heads_ok words tags hs
      by true q = let e = eqb-true (length hs % 6) 0 q in ends words tags hs (k * 6) w t I (omega arith)
      by false q = let n = eqb-false (length hs % 6) 0 q in ends_short words tags hs (k * 6) w t I (omega arith) (omega arith)

  module _ (h : k < length hs / 6) (a b : ℕ) (p : a ≡ get_or (get_or (first_chunks 6 (length hs / 6) hs) k []) 4 0) (q : b ≡ get_or (get_or (first_chunks 6 (length hs / 6) hs) k []) 5 0) where
    words_at : a ≡ get_or hs (k * 6 + 4) 0
    words_at = p ∙ ap (λ (l : List ℕ). get_or l 4 0) (six_at hs k h)

    tags_at : b ≡ get_or hs (k * 6 + 5) 0
    tags_at = q ∙ ap (λ (l : List ℕ). get_or l 5 0) (six_at hs k h)

    marked : (c : Bool) → not (leb (get_or (get_or (first_chunks 6 (length hs / 6) hs) k []) 1 0) 1 && (leb a w && leb b t)) ≡ c → not (leb (get_or hs (k * 6 + 1) 0) 1 && (leb a w && leb b t)) ≡ c
    marked c y = subst (λ (l : List ℕ). not (leb (get_or l 1 0) 1 && (leb a w && leb b t)) ≡ c) (six_at hs k h) y

    pub head_past : not (leb (get_or (get_or (first_chunks 6 (length hs / 6) hs) k []) 1 0) 1 && (leb a w && leb b t)) ≡ true → false ≡ heads_ok words tags hs
    head_past y = past words tags hs (k * 6) w t I a b words_at tags_at (omega arith) (marked true y)

    module _ (n : not (leb (get_or (get_or (first_chunks 6 (length hs / 6) hs) k []) 1 0) 1 && (leb a w && leb b t)) ≡ false) where
      pub head_words : a ≤ w
      head_words = words_there words tags hs (k * 6) w t I a b words_at tags_at (omega arith) (marked false n)

      pub head_tags : b ≤ t
      head_tags = tags_there words tags hs (k * 6) w t I a b words_at tags_at (omega arith) (marked false n)

      pub head_on : Inv words tags hs ((k + 1) * 6) (w - a) (t - b)
      head_on =
          let e : k * 6 + 6 ≡ (k + 1) * 6 = omega arith in
          subst (λ (i : ℕ). Inv words tags hs i (w - a) (t - b)) e (further words tags hs (k * 6) w t I a b words_at tags_at (omega arith) (marked false n))
