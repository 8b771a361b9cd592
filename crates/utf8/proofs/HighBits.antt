-- `are_ascii`: four bytes in one word, of which the highest bit of each is asked at once.
use Prim.Native.Nat.{ℕ, ◌+◌, ◌*◌, ◌/◌, ◌%◌, ◌≤◌, ◌<◌}
use mathlib.Core.Path.{◌≡◌, refl, sym, ap, ◌∙◌}
use mathlib.Core.Bool.{Bool, true, false, ◌&&◌}
use native.Mathlib.Omega.{arith}
use lib.Bits.{bit_and, and_block, and_high}
use lib.Dec.{leb, eqb}
use borrow.Author.Tests.{le-leb, leb-true, leb-false, eqb-true, eq-eqb}
use Rattle.promise.proofs.Joined.{same, both, both_is}
use Rattle.utf8.specs.Utf8.{within, ascii}

-- the highest bit of a byte
high_bit : (x : ℕ) → bit_and x 0x80 ≡ x / 128 % 2 * 128
high_bit x = and_high x 1 7

-- a byte without it is ASCII
low_byte : (x : ℕ) → x < 256 → bit_and x 0x80 ≡ 0 → x ≤ 0x7F
low_byte x h e = by (leb x 0x7F) refl
  where
    by : (t : Bool) → leb x 0x7F ≡ t → x ≤ 0x7F
    by true p = leb-true x 0x7F p
    by false p =
        let q : x / 128 ≡ 1 = omega (arith, leb-false x 0x7F p) in
        let z : ◌≡◌ {A = ℕ} 128 0 = sym (high_bit x ∙ rw q) ∙ e in
        absurd (omega (arith, z))

-- word by word of the mask
module _ (a b c d : ℕ) (ha : a < 256) (hb : b < 256) (hc : c < 256) (hd : d < 256) where
  by_bytes : bit_and (a + 256 * b + 65536 * c + 16777216 * d) 0x80808080 ≡ ((bit_and d 0x80 * 256 + bit_and c 0x80) * 256 + bit_and b 0x80) * 256 + bit_and a 0x80
  by_bytes =
      let w : a + 256 * b + 65536 * c + 16777216 * d ≡ ((d * 256 + c) * 256 + b) * 256 + a = omega arith in
      let x = and_block 8 ((d * 256 + c) * 256 + b) 0x808080 a 0x80 ha (omega arith) in
      let y = and_block 8 (d * 256 + c) 0x8080 b 0x80 hb (omega arith) in
      let z = and_block 8 d 0x80 c 0x80 hc (omega arith) in
      ap (λ (n : ℕ). bit_and n 0x80808080) w ∙ x ∙ ap (λ (n : ℕ). n * 256 + bit_and a 0x80) (y ∙ ap (λ (n : ℕ). n * 256 + bit_and b 0x80) z)

  no_bits : a ≤ 0x7F → b ≤ 0x7F → c ≤ 0x7F → d ≤ 0x7F → bit_and (a + 256 * b + 65536 * c + 16777216 * d) 0x80808080 ≡ 0
  no_bits la lb lc ld = by_bytes ∙ omega (arith, high_bit a, high_bit b, high_bit c, high_bit d)

  pub four_ascii : eqb (bit_and (a + 256 * b + 65536 * c + 16777216 * d) 0x80808080) 0 ≡ (within ascii a && (within ascii b && (within ascii c && within ascii d)))
  four_ascii = same (eqb (bit_and (a + 256 * b + 65536 * c + 16777216 * d) 0x80808080) 0) (within ascii a && (within ascii b && (within ascii c && within ascii d))) told asked
    where
      in_range : (x : ℕ) → x < 256 → bit_and x 0x80 ≡ 0 → within ascii x ≡ true
      in_range x h e = both_is (le-leb 0 x (omega arith)) (le-leb x 0x7F (low_byte x h e))

      low : (x : ℕ) → within ascii x ≡ true → x ≤ 0x7F
      low x e = leb-true x 0x7F (both (leb 0 x) (leb x 0x7F) e).1

      told : eqb (bit_and (a + 256 * b + 65536 * c + 16777216 * d) 0x80808080) 0 ≡ true → (within ascii a && (within ascii b && (within ascii c && within ascii d))) ≡ true
      told e =
          let s = sym by_bytes ∙ eqb-true (bit_and (a + 256 * b + 65536 * c + 16777216 * d) 0x80808080) 0 e in
          both_is (in_range a ha (omega (arith, s))) (both_is (in_range b hb (omega (arith, s))) (both_is (in_range c hc (omega (arith, s))) (in_range d hd (omega (arith, s)))))

      asked : (within ascii a && (within ascii b && (within ascii c && within ascii d))) ≡ true → eqb (bit_and (a + 256 * b + 65536 * c + 16777216 * d) 0x80808080) 0 ≡ true
      asked e =
          let x = both (within ascii a) (within ascii b && (within ascii c && within ascii d)) e in
          let y = both (within ascii b) (within ascii c && within ascii d) x.1 in
          let z = both (within ascii c) (within ascii d) y.1 in
          eq-eqb (bit_and (a + 256 * b + 65536 * c + 16777216 * d) 0x80808080) 0 (no_bits (low a x.0) (low b y.0) (low c z.0) (low d z.1))
