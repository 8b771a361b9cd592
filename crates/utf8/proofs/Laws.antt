-- The steps along a text.
use Prim.Native.Nat.{ℕ, zero, suc, ◌+◌, ◌-◌, ◌*◌, ◌/◌, ◌≤◌, ◌<◌}
use mathlib.Core.Path.{◌≡◌, refl, sym, ap, ◌∙◌}
use mathlib.Core.Bool.{Bool, true, false, cond, not, ◌&&◌}
use mathlib.Core.List.{List, [], ◌∷◌}
use native.Mathlib.Omega.{arith}
use lib.ListN.{length, get_or, drop, length-drop}
use lib.Seq.{drop-drop, drop-length, get_or-drop}
use Rattle.std.specs.Simd.{first_chunks}
use Rattle.std.proofs.lemmas.List.{get_or-take}
use lib.Dec.{leb}
use borrow.Author.Tests.{not-true, not-false, leb-true, leb-false, le-leb, lt-leb, ne_eqb}
use Rattle.promise.proofs.Joined.{both, both_is}
use Rattle.promise.proofs.Steps.{next}
use Rattle.utf8.specs.Utf8.{Range, ◌to◌, within, ascii, rows, by_row, awaits, is_utf8}
use Rattle.utf8.specs.Steps.{follows, ranges, Goes, Read}

-- ---- `followed`
few : (rs : List Range) (bs : List ℕ) → length bs < length rs → follows rs bs ≡ false
few [] bs h = absurd (omega arith)
few (r ∷ rs) [] h = refl
few (r ∷ rs) (b ∷ bs) h = never (within r b) (few rs bs (omega (arith, h)))
  where
    never : (t : Bool) {x : Bool} → x ≡ false → cond t x false ≡ false
    never true e = e
    never false e = refl

length_ranges : (low high n : ℕ) → length (ranges low high n) ≡ n
length_ranges low high zero = refl
length_ranges low high (suc n) = ap suc (length_ranges 0x80 0xBF n)

-- the ranges of n bytes less one, behind index i, where those of less k are still to come
pub record Inv (ws : List ℕ) (i low high n lo hi k : ℕ) : Type 0 where
  pub some : 1 ≤ k
  pub room : n ≤ length ws - i
  pub rest : follows (ranges low high (n - 1)) (drop (i + 1) ws) ≡ follows (ranges lo hi (n - k)) (drop (i + k) ws)

module _ (ws : List ℕ) (i low high n : ℕ) where
  pub cut : i < length ws → length ws - i < n → 0 ≡ cond (follows (ranges low high (n - 1)) (drop (i + 1) ws)) n 0
  cut h s = rw (few (ranges low high (n - 1)) (drop (i + 1) ws) (omega (arith, length_ranges low high (n - 1), length-drop (i + 1) ws)))

  pub begin : n ≤ length ws - i → Inv ws i low high n low high 1
  begin h = record { some = omega arith; room = h; rest = refl }

  module _ (lo hi k : ℕ) (I : Inv ws i low high n lo hi k) where
    turn : k < n → follows (ranges lo hi (n - k)) (drop (i + k) ws) ≡ cond (within (lo to hi) (get_or ws (i + k) 0)) (follows (ranges 0x80 0xBF (n - (k + 1))) (drop (i + (k + 1)) ws)) false
    turn h =
        let e : n - k ≡ suc (n - (k + 1)) = omega arith in
        let d : drop (i + k) ws ≡ get_or ws (i + k) 0 ∷ drop (i + (k + 1)) ws = next ws (i + k) (i + (k + 1)) (omega arith) (omega (arith, I.room)) in
        rw (e, d)

    pub differs : k < n → not (within (lo to hi) (get_or ws (i + k) 0)) ≡ true → 0 ≡ cond (follows (ranges low high (n - 1)) (drop (i + 1) ws)) n 0
    differs h e = rw (I.rest, turn h, not-true (within (lo to hi) (get_or ws (i + k) 0)) e)

    pub goes : k < n → not (within (lo to hi) (get_or ws (i + k) 0)) ≡ false → Inv ws i low high n 0x80 0xBF (k + 1)
    goes h e = record { some = omega arith; room = I.room; rest = I.rest ∙ rw (turn h, not-false (within (lo to hi) (get_or ws (i + k) 0)) e) }

    pub done : n ≤ k → n ≡ cond (follows (ranges low high (n - 1)) (drop (i + 1) ws)) n 0
    done h = let e : n - k ≡ 0 = omega arith in rw (I.rest, e)

-- ---- `sequence`: a first byte's row
not_one : (n a : ℕ) → (a ≡ n → ⊥) → within (n to n) a ≡ false
not_one n a h = by (leb n a) (leb a n) refl refl
  where
    by : (s t : Bool) → leb n a ≡ s → leb a n ≡ t → (s && t) ≡ false
    by true true p q = absurd (h (omega (arith, leb-true n a p, leb-true a n q)))
    by true false p q = refl
    by false t p q = refl

-- what is awaited stands at the front, and behind it sequences of the table
awaits_is : (rs : List Range) (bs : List ℕ) → awaits rs bs ≡ cond (follows rs bs) (is_utf8 (drop (length rs) bs)) false
awaits_is [] bs = refl
awaits_is (r ∷ rs) [] = refl
awaits_is (r ∷ rs) (b ∷ bs) = by (within r b) (awaits_is rs bs)
  where
    by : (t : Bool) → awaits rs bs ≡ cond (follows rs bs) (is_utf8 (drop (length rs) bs)) false → cond t (awaits rs bs) false ≡ cond (cond t (follows rs bs) false) (is_utf8 (drop (length rs) bs)) false
    by true e = e
    by false e = refl

-- what follows is there
enough : (rs : List Range) (bs : List ℕ) → follows rs bs ≡ true → length rs ≤ length bs
enough rs bs e = by (leb (length rs) (length bs)) refl
  where
    by : (t : Bool) → leb (length rs) (length bs) ≡ t → length rs ≤ length bs
    by true p = leb-true (length rs) (length bs) p
    by false p = absurd (let q = few rs bs (leb-false (length rs) (length bs) p) in let z : ◌≡◌ {A = ℕ} 0 1 = cc in omega arith)

module _ (ws : List ℕ) (i : ℕ) (h : i < length ws) where
  -- a row's first byte: what is awaited behind it decides
  by_row_lem : (low high n r : ℕ) → 1 ≤ n → is_utf8 (drop i ws) ≡ awaits (ranges low high (n - 1)) (drop (i + 1) ws) → r ≡ cond (follows (ranges low high (n - 1)) (drop (i + 1) ws)) n 0 → Goes ws i r
  by_row_lem low high n r s e g = by (follows (ranges low high (n - 1)) (drop (i + 1) ws)) refl
    where
      by : (t : Bool) → follows (ranges low high (n - 1)) (drop (i + 1) ws) ≡ t → Goes ws i r
      by true p =
          let q : r ≡ n = rw p at g in
          let l = length_ranges low high (n - 1) in
          let m = enough (ranges low high (n - 1)) (drop (i + 1) ws) p in
          let x : is_utf8 (drop i ws) ≡ is_utf8 (drop (length (ranges low high (n - 1))) (drop (i + 1) ws)) = e ∙ awaits_is (ranges low high (n - 1)) (drop (i + 1) ws) ∙ rw p in
          let y : i + 1 + length (ranges low high (n - 1)) ≡ i + r = omega (arith, q, l) in
          record {
            inside = omega (arith, q, l, m, length-drop (i + 1) ws);
            on = x ∙ ap is_utf8 (drop-drop (length (ranges low high (n - 1))) (i + 1) ws) ∙ rw (y, ne_eqb r 0 (λ z. omega (arith, q)));
          }
      by false p =
          let q : r ≡ 0 = rw p at g in
          record { inside = omega (arith, q); on = e ∙ awaits_is (ranges low high (n - 1)) (drop (i + 1) ws) ∙ rw (p, q) }

  -- the rows from the one after k on decide
  abbrev From : ℕ → Type 0
  From k = is_utf8 (drop i ws) ≡ by_row (drop k rows) (get_or ws i 0) (λ rs. awaits rs (drop (i + 1) ws))

  from_first : From 0
  from_first = ap is_utf8 (next ws i (i + 1) (omega arith) h)

  pub row_1 : get_or ws i 0 ≤ 0x7F → Goes ws i 1
  row_1 t = record { inside = omega (arith, h); on = from_first ∙ rw (le-leb 0 (get_or ws i 0) (omega arith), le-leb (get_or ws i 0) 0x7F t) }

  -- each row's test where those before it have failed
  module _ (r : ℕ) (n1 : 0x7F < get_or ws i 0) where
    from_1 : From 1
    from_1 = from_first ∙ rw (le-leb 0 (get_or ws i 0) (omega arith), lt-leb (get_or ws i 0) 0x7F n1)

    pub row_2 : within (0xC2 to 0xDF) (get_or ws i 0) ≡ true → r ≡ cond (follows (ranges 0x80 0xBF 1) (drop (i + 1) ws)) 2 0 → Goes ws i r
    row_2 t = by_row_lem 0x80 0xBF 2 r (omega arith) (from_1 ∙ rw t)

    module _ (n2 : within (0xC2 to 0xDF) (get_or ws i 0) ≡ false) where
      from_2 : From 2
      from_2 = from_1 ∙ rw (n2)

      pub row_3 : get_or ws i 0 ≡ 0xE0 → r ≡ cond (follows (ranges 0xA0 0xBF 2) (drop (i + 1) ws)) 3 0 → Goes ws i r
      row_3 t = by_row_lem 0xA0 0xBF 3 r (omega arith) (from_2 ∙ rw t)

      module _ (n3 : get_or ws i 0 ≡ 0xE0 → ⊥) where
        from_3 : From 3
        from_3 = from_2 ∙ rw (not_one 0xE0 (get_or ws i 0) n3)

        pub row_4 : within (0xE1 to 0xEC) (get_or ws i 0) ≡ true → r ≡ cond (follows (ranges 0x80 0xBF 2) (drop (i + 1) ws)) 3 0 → Goes ws i r
        row_4 t = by_row_lem 0x80 0xBF 3 r (omega arith) (from_3 ∙ rw t)

        module _ (n4 : within (0xE1 to 0xEC) (get_or ws i 0) ≡ false) where
          from_4 : From 4
          from_4 = from_3 ∙ rw (n4)

          pub row_5 : get_or ws i 0 ≡ 0xED → r ≡ cond (follows (ranges 0x80 0x9F 2) (drop (i + 1) ws)) 3 0 → Goes ws i r
          row_5 t = by_row_lem 0x80 0x9F 3 r (omega arith) (from_4 ∙ rw t)

          module _ (n5 : get_or ws i 0 ≡ 0xED → ⊥) where
            from_5 : From 5
            from_5 = from_4 ∙ rw (not_one 0xED (get_or ws i 0) n5)

            pub row_6 : within (0xEE to 0xEF) (get_or ws i 0) ≡ true → r ≡ cond (follows (ranges 0x80 0xBF 2) (drop (i + 1) ws)) 3 0 → Goes ws i r
            row_6 t = by_row_lem 0x80 0xBF 3 r (omega arith) (from_5 ∙ rw t)

            module _ (n6 : within (0xEE to 0xEF) (get_or ws i 0) ≡ false) where
              from_6 : From 6
              from_6 = from_5 ∙ rw (n6)

              pub row_7 : get_or ws i 0 ≡ 0xF0 → r ≡ cond (follows (ranges 0x90 0xBF 3) (drop (i + 1) ws)) 4 0 → Goes ws i r
              row_7 t = by_row_lem 0x90 0xBF 4 r (omega arith) (from_6 ∙ rw t)

              module _ (n7 : get_or ws i 0 ≡ 0xF0 → ⊥) where
                from_7 : From 7
                from_7 = from_6 ∙ rw (not_one 0xF0 (get_or ws i 0) n7)

                pub row_8 : within (0xF1 to 0xF3) (get_or ws i 0) ≡ true → r ≡ cond (follows (ranges 0x80 0xBF 3) (drop (i + 1) ws)) 4 0 → Goes ws i r
                row_8 t = by_row_lem 0x80 0xBF 4 r (omega arith) (from_7 ∙ rw t)

                module _ (n8 : within (0xF1 to 0xF3) (get_or ws i 0) ≡ false) where
                  from_8 : From 8
                  from_8 = from_7 ∙ rw (n8)

                  pub row_9 : get_or ws i 0 ≡ 0xF4 → r ≡ cond (follows (ranges 0x80 0x8F 3) (drop (i + 1) ws)) 4 0 → Goes ws i r
                  row_9 t = by_row_lem 0x80 0x8F 4 r (omega arith) (from_8 ∙ rw t)

                  module _ (n9 : get_or ws i 0 ≡ 0xF4 → ⊥) where
                    from_9 : From 9
                    from_9 = from_8 ∙ rw (not_one 0xF4 (get_or ws i 0) n9)

                    pub no_row : Goes ws i 0
                    no_row = record { inside = omega (arith, h); on = from_9 }

-- ---- the loops: what is from an index on is UTF-8 where what is from i on is
pub read_start : (ws : List ℕ) (from : ℕ) → from ≤ length ws → Read ws from from
read_start ws from h = record { inside = h; rest = refl }

-- a byte of ASCII more
one_more : (ws : List ℕ) (from i k : ℕ) → Read ws from i → k ≡ suc i → i < length ws → within ascii (get_or ws i 0) ≡ true → Read ws from k
one_more ws from i k R e h t =
    let g : is_utf8 (drop i ws) ≡ is_utf8 (drop k ws) = ap is_utf8 (next ws i k e h) ∙ rw t in
    record { inside = omega (arith, h, e); rest = R.rest ∙ g }

module _ (ws : List ℕ) (from i : ℕ) (R : Read ws from i) where
  -- a sequence more, or none
  module _ (n : ℕ) (G : Goes ws i n) where
    pub stops : n ≡ 0 → false ≡ is_utf8 (drop from ws)
    stops e = sym (R.rest ∙ G.on ∙ rw e)

    pub onward : (n ≡ 0 → ⊥) → Read ws from (i + n)
    onward e = record { inside = G.inside; rest = R.rest ∙ G.on ∙ rw (ne_eqb n 0 e) }

  pub ends : length ws ≤ i → true ≡ is_utf8 (drop from ws)
  ends h = let e : i ≡ length ws = omega (arith, R.inside) in sym (R.rest ∙ rw (e, drop-length ws))

  pub ascii_more : i < length ws → get_or ws i 0 ≤ 0x7F → Read ws from (i + 1)
  ascii_more h t = one_more ws from i (i + 1) R (omega arith) h (both_is (le-leb 0 (get_or ws i 0) (omega arith)) (le-leb (get_or ws i 0) 0x7F t))

  module _ (h : i + 4 ≤ length ws) (t : Bool) (g : t ≡ (within ascii (get_or ws i 0) && (within ascii (get_or ws (i + 1) 0) && (within ascii (get_or ws (i + 2) 0) && within ascii (get_or ws (i + 3) 0))))) where
    four_more : t ≡ true → Read ws from (i + 4)
    four_more n =
        let a = both (within ascii (get_or ws i 0)) _ (sym g ∙ n) in
        let b = both (within ascii (get_or ws (i + 1) 0)) _ a.1 in
        let c = both (within ascii (get_or ws (i + 2) 0)) (within ascii (get_or ws (i + 3) 0)) b.1 in
        let R1 = one_more ws from i (i + 1) R (omega arith) (omega arith) a.0 in
        let R2 = one_more ws from (i + 1) (i + 2) R1 (omega arith) (omega arith) b.0 in
        let R3 = one_more ws from (i + 2) (i + 3) R2 (omega arith) (omega arith) c.0 in
        one_more ws from (i + 3) (i + 4) R3 (omega arith) (omega arith) c.1

  pub rest_tells : (t : Bool) → t ≡ is_utf8 (drop i ws) → t ≡ is_utf8 (drop from ws)
  rest_tells t e = e ∙ sym R.rest

-- ---- four bytes of the text, and the place behind them
four_at : (m k j : ℕ) (ws : List ℕ) → k < m → j < 4 → get_or (get_or (first_chunks 4 m ws) k []) j 0 ≡ get_or ws (4 * k + j) 0
four_at zero k j ws h l = absurd (omega arith)
four_at (suc m) zero j ws h l = let z : 4 * 0 + j ≡ j = omega arith in rw z (get_or-take 4 ws j 0 l)
four_at (suc m) (suc k) j ws h l =
    let e : 4 + (4 * k + j) ≡ 4 * suc k + j = omega arith in
    four_at m k j (drop 4 ws) (omega arith) l ∙ get_or-drop 4 ws (4 * k + j) 0 ∙ ap (λ (n : ℕ). get_or ws n 0) e

module _ (ws : List ℕ) (k : ℕ) (R : Read ws 0 (4 * k)) (h : k < length ws / 4) where
  pub next_four : (t : Bool) → t ≡ (within ascii (get_or (get_or (first_chunks 4 (length ws / 4) ws) k []) 0 0) && (within ascii (get_or (get_or (first_chunks 4 (length ws / 4) ws) k []) 1 0) && (within ascii (get_or (get_or (first_chunks 4 (length ws / 4) ws) k []) 2 0) && within ascii (get_or (get_or (first_chunks 4 (length ws / 4) ws) k []) 3 0)))) → t ≡ true → Read ws 0 (4 * (k + 1))
  next_four t g e =
      let z : 4 * k + 0 ≡ 4 * k = omega arith in
      let y : 4 * k + 4 ≡ 4 * (k + 1) = omega arith in
      rw (← y) (four_more ws 0 (4 * k) R (omega arith) t (rw (four_at (length ws / 4) k 0 ws h (omega arith), four_at (length ws / 4) k 1 ws h (omega arith), four_at (length ws / 4) k 2 ws h (omega arith), four_at (length ws / 4) k 3 ws h (omega arith), z) at g) e)
