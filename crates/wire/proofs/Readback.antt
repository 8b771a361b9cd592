-- Laws of reading a varint, each once over the width: what is written reads back, whatever follows it, and nothing shorter does.
--     varint_back varint_cut varint_least    of 64 bits: the number and its bytes; no part of them; no fewer bytes for that number
--     read_fits read_used read_on            what was read is a number of 64 bits, of one to ten bytes that are there; more bytes change nothing but a cut
use Prim.Native.Nat.{ℕ, zero, suc, ◌+◌, ◌*◌, ◌/◌, ◌%◌, ◌≤◌, ◌<◌}
use mathlib.Core.Path.{◌≡◌, refl, sym, ap, ◌∙◌}
use mathlib.Core.Bool.{Bool, true, false}
use mathlib.Core.List.{List, [], ◌∷◌, ◌++◌}
use native.Mathlib.Omega.{arith}
use borrow.Author.Tests.{lt-ltb, le-ltb, ltb-true, ltb-false}
use lib.ListN.{length, take}
use lib.Dec.{ltb}
use Rattle.wire.specs.Varints.{varint_of, varint}
use Rattle.wire.specs.Reading.{VarintRead, good, cut, over, behind, read_of, read_varint}
use Rattle.wire.proofs.Varints.{last}

-- what can be read: one more than the largest number
abbrev pub reach : ℕ → ℕ → ℕ
reach top zero = top
reach top (suc more) = 128 * reach top more

-- either side of a test on a number
data Side (n m : ℕ) : Type 0 where
  below : n < m → Side n m
  above : m ≤ n → Side n m

side : (n m : ℕ) → Side n m
side n m = by (ltb n m) refl
  where
    by : (b : Bool) → ltb n m ≡ b → Side n m
    by true e = below (ltb-true n m e)
    by false e = above (ltb-false n m e)

module _ (top : ℕ) where
  -- ---- a byte below 128 ends it, another is followed
  ends : (more b : ℕ) (bytes : List ℕ) → b < 128 → read_of top (suc more) (b ∷ bytes) ≡ good b 1
  ends more b bytes h = rw (lt-ltb b 128 h)

  goes : (more b : ℕ) (bytes : List ℕ) → 128 ≤ b → read_of top (suc more) (b ∷ bytes) ≡ behind (b % 128) (read_of top more bytes)
  goes more b bytes h = rw (le-ltb b 128 h)

  written : (more n : ℕ) → 128 ≤ n → varint_of (suc more) n ≡ (n % 128 + 128) ∷ varint_of more (n / 128)
  written more n h = rw (le-ltb n 128 h)

  -- ---- there and back
  pub back : (more n : ℕ) (rest : List ℕ) → n < reach top more → read_of top more (varint_of more n ++ rest) ≡ good n (length (varint_of more n))
  back zero n rest h = rw (lt-ltb n top h)
  back (suc more) n rest h = by (back more (n / 128) rest (omega arith)) (side n 128)
    where
      by : read_of top more (varint_of more (n / 128) ++ rest) ≡ good (n / 128) (length (varint_of more (n / 128))) → Side n 128 → read_of top (suc more) (varint_of (suc more) n ++ rest) ≡ good n (length (varint_of (suc more) n))
      by r (below l) = rw (last (suc more) n l) (ends more n rest l)
      by r (above l) =
          let b : 128 ≤ n % 128 + 128 = omega arith in
          let e : (n % 128 + 128) % 128 + 128 * (n / 128) ≡ n = omega arith in
          rw (written more n l) (goes more (n % 128 + 128) (varint_of more (n / 128) ++ rest) b ∙ ap (behind ((n % 128 + 128) % 128)) r ∙ ap (λ (m : ℕ). good m (suc (length (varint_of more (n / 128))))) e)

  -- ---- no part of the bytes is enough
  pub part : (more n k : ℕ) → k < length (varint_of more n) → read_of top more (take k (varint_of more n)) ≡ cut
  part zero n zero h = refl
  part zero n (suc k) h = absurd (omega arith)
  part (suc more) n k h = by (side n 128) (λ j g. part more (n / 128) j g)
    where
      one_byte : (j : ℕ) → j < 1 → read_of top (suc more) (take j (n ∷ [])) ≡ cut
      one_byte zero g = refl
      one_byte (suc j) g = absurd (omega arith)

      first : ((j : ℕ) → j < length (varint_of more (n / 128)) → read_of top more (take j (varint_of more (n / 128))) ≡ cut) → (j : ℕ) → j < suc (length (varint_of more (n / 128))) → read_of top (suc more) (take j ((n % 128 + 128) ∷ varint_of more (n / 128))) ≡ cut
      first r zero g = refl
      first r (suc j) g = goes more (n % 128 + 128) (take j (varint_of more (n / 128))) (omega arith) ∙ ap (behind ((n % 128 + 128) % 128)) (r j (omega arith))

      by : Side n 128 → ((j : ℕ) → j < length (varint_of more (n / 128)) → read_of top more (take j (varint_of more (n / 128))) ≡ cut) → read_of top (suc more) (take k (varint_of (suc more) n)) ≡ cut
      by (below l) r = rw (last (suc more) n l) (one_byte k (omega (arith, ap length (last (suc more) n l))))
      by (above l) r = rw (written more n l) (first r k (omega (arith, ap length (written more n l))))

  -- ---- what a good reading is made of
  record Split (low : ℕ) (r : VarintRead) (n k : ℕ) : Type 0 where
    high : ℕ
    used : ℕ
    read : r ≡ good high used
    number : n ≡ low + 128 * high
    count : k ≡ suc used

  split : (low : ℕ) (r : VarintRead) (n k : ℕ) → behind low r ≡ good n k → Split low r n k
  split low (good m j) n k e = record { high = m; used = j; read = refl; number = cc; count = cc }
  split low cut n k e = absurd (let z : ◌≡◌ {A = ℕ} 0 1 = cc in omega arith)
  split low (over p) n k e = absurd (let z : ◌≡◌ {A = ℕ} 0 1 = cc in omega arith)

  -- a number read from so many bytes: it is in reach, its bytes are there, and its own varint is not longer
  pub record Read (more : ℕ) (bytes : List ℕ) (n k : ℕ) : Type 0 where
    pub fits : n < reach top more
    pub some_bytes : 1 ≤ k
    pub there : k ≤ length bytes
    pub few : k ≤ suc more
    pub least : length (varint_of more n) ≤ k

  module _ (top-some : 1 ≤ top) where
    reach_some : (more : ℕ) → 1 ≤ reach top more
    reach_some zero = omega arith
    reach_some (suc more) = omega (arith, reach_some more)

    low_end : (more b : ℕ) (bytes : List ℕ) (n k : ℕ) → b < 128 → good b 1 ≡ good n k → Read (suc more) (b ∷ bytes) n k
    low_end more b bytes n k l e =
        let c : 1 ≡ k = cc in
        let m : b ≡ n = cc in
        let s : length (varint_of (suc more) n) ≡ 1 = ap length (last (suc more) n (omega arith)) in
        record { fits = omega (arith, reach_some more); some_bytes = omega arith; there = omega arith; few = omega arith; least = omega (arith, s) }

    high_end : (more b : ℕ) (bytes : List ℕ) (n k : ℕ) → Split (b % 128) (read_of top more bytes) n k → ((m j : ℕ) → read_of top more bytes ≡ good m j → Read more bytes m j) → Read (suc more) (b ∷ bytes) n k
    high_end more b bytes n k s r =
        let i = r s.high s.used s.read in
        let d : n / 128 ≡ s.high = omega (arith, s.number) in
        record { fits = omega (arith, s.number, i.fits); some_bytes = omega (arith, s.count); there = omega (arith, s.count, i.there); few = omega (arith, s.count, i.few); least = by d i.least (side n 128) }
      where
        by : n / 128 ≡ s.high → length (varint_of more s.high) ≤ s.used → Side n 128 → length (varint_of (suc more) n) ≤ k
        by d i (below l) = omega (arith, ap length (last (suc more) n l), s.count)
        by d i (above l) = omega (arith, ap length (written more n l), ap (λ (m : ℕ). length (varint_of more m)) d, s.count)

    pub read : (more : ℕ) (bytes : List ℕ) (n k : ℕ) → read_of top more bytes ≡ good n k → Read more bytes n k
    read zero [] n k e = absurd (let z : ◌≡◌ {A = ℕ} 0 1 = cc in omega arith)
    read (suc more) [] n k e = absurd (let z : ◌≡◌ {A = ℕ} 0 1 = cc in omega arith)
    read zero (b ∷ bytes) n k e = by (side b top)
      where
        by : Side b top → Read zero (b ∷ bytes) n k
        by (below l) =
            let f : good b 1 ≡ good n k = sym (rw (lt-ltb b top l)) ∙ e in
            let c : 1 ≡ k = cc in
            let m : b ≡ n = cc in
            record { fits = omega arith; some_bytes = omega arith; there = omega arith; few = omega arith; least = omega arith }
        by (above l) =
            let f : over 0 ≡ good n k = sym (rw (le-ltb b top l)) ∙ e in
            absurd (let z : ◌≡◌ {A = ℕ} 0 1 = cc in omega arith)
    read (suc more) (b ∷ bytes) n k e = by (side b 128) (λ m j f. read more bytes m j f)
      where
        by : Side b 128 → ((m j : ℕ) → read_of top more bytes ≡ good m j → Read more bytes m j) → Read (suc more) (b ∷ bytes) n k
        by (below l) r = low_end more b bytes n k l (sym (ends more b bytes l) ∙ e)
        by (above l) r = high_end more b bytes n k (split (b % 128) (read_of top more bytes) n k (sym (goes more b bytes l) ∙ e)) r

  -- ---- more bytes change nothing but a cut
  uncut : (low : ℕ) (r : VarintRead) → (behind low r ≡ cut → ⊥) → r ≡ cut → ⊥
  uncut low r h e = h (ap (behind low) e)

  pub on : (more : ℕ) (bytes rest : List ℕ) → (read_of top more bytes ≡ cut → ⊥) → read_of top more (bytes ++ rest) ≡ read_of top more bytes
  on zero [] rest h = absurd (h refl)
  on (suc more) [] rest h = absurd (h refl)
  on zero (b ∷ bytes) rest h = refl
  on (suc more) (b ∷ bytes) rest h = by (side b 128) (λ g. on more bytes rest g)
    where
      by : Side b 128 → ((read_of top more bytes ≡ cut → ⊥) → read_of top more (bytes ++ rest) ≡ read_of top more bytes) → read_of top (suc more) (b ∷ (bytes ++ rest)) ≡ read_of top (suc more) (b ∷ bytes)
      by (below l) r = ends more b (bytes ++ rest) l ∙ sym (ends more b bytes l)
      by (above l) r =
          goes more b (bytes ++ rest) l ∙ ap (behind (b % 128)) (r (uncut (b % 128) (read_of top more bytes) (λ e. h (goes more b bytes l ∙ e)))) ∙ sym (goes more b bytes l)

-- ---- at 64 bits
pub varint_back : (n : ℕ) (rest : List ℕ) → n < 18446744073709551616 → read_varint (varint n ++ rest) ≡ good n (length (varint n))
unfolding varint read_varint
varint_back n rest h = back 2 9 n rest (omega arith)

pub varint_cut : (n k : ℕ) → k < length (varint n) → read_varint (take k (varint n)) ≡ cut
unfolding varint read_varint
varint_cut n k h = part 2 9 n k h

module _ (bytes : List ℕ) (n k : ℕ) (e : read_varint bytes ≡ good n k) where
  is_read : Read 2 9 bytes n k
  unfolding read_varint
  is_read = read 2 (omega arith) 9 bytes n k e

  pub varint_least : length (varint n) ≤ k
  unfolding varint
  varint_least = is_read.least

  pub read_fits : n < 18446744073709551616
  read_fits = omega (arith, is_read.fits)

  pub read_used : (1 ≤ k) × (k ≤ length bytes) × (k ≤ 10)
  read_used = (is_read.some_bytes, is_read.there, is_read.few)

pub read_on : (bytes rest : List ℕ) → (read_varint bytes ≡ cut → ⊥) → read_varint (bytes ++ rest) ≡ read_varint bytes
unfolding read_varint
read_on bytes rest h = on 2 9 bytes rest h
