-- The library's digits are a number's decimal, and as many hexadecimal digits as are asked for where the number has no more; and how long each is.
use mathlib.Core.Path.{◌≡◌, refl, ◌∙◌}
use mathlib.Core.List.{List, [], ◌∷◌, ◌++◌}
use Prim.Native.Nat.{ℕ, zero, suc, ◌+◌, ◌-◌, ◌/◌, ◌^◌, ◌<◌, ◌≤◌, min, max}
use native.Mathlib.Omega.{arith}
use native.Mathlib.Decide.{dec_le}
use native.Mathlib.Nat.{pow-le-pow_right}
use borrow.Author.Tests.{lt-ltb}
use lib.ListN.{length, take, length-append}
use Rattle.io.specs.Digits.{last_digits, IsDigitCount}
use Rattle.whole.specs.Twos.{signed64}
use Rattle.whole.proofs.Twos.{twos_high}
use Rattle.printed.specs.Decimal.{decimal}
use Rattle.printed.proofs.Decimals.{decimal_is, ended_short, twenty}
use Rattle.opened.specs.Opened.{named}
use Rattle.opened.specs.Values.{hex_digits, signed_decimal}

-- ---- decimal
pub decimal_short : (n : ℕ) → length (decimal n) ≤ 20
decimal_short n = omega (arith, simp length-append at (ended_short n 0))

pub named_short : (name : List ℕ) (n : ℕ) → length (named name n) ≤ length name + 20
named_short name n = rw (length-append name (decimal n)) (omega (arith, decimal_short n))

pub spelt : (n k : ℕ) (ds : List ℕ) → n < 2 ^ 64 → IsDigitCount 10 1 n k → take k ds ≡ last_digits 10 k n → take k ds ≡ decimal n
spelt n k ds h w e = e ∙ decimal_is n k (twenty n k h w) w

-- ---- two's complement: a word from half on stands for a number below zero
pub below_half : (name : List ℕ) (bits : ℕ) → bits < 9223372036854775808 → name ++ signed_decimal (signed64 bits) ≡ named name bits
below_half name bits h = rw (lt-ltb bits 9223372036854775808 h)

pub from_half : (bits : ℕ) → 9223372036854775808 ≤ bits → bits < 2 ^ 64 → signed_decimal (signed64 bits) ≡ named (45 ∷ []) (18446744073709551615 - bits + 1)
from_half bits h l =
    let e : 18446744073709551615 - bits + 1 ≡ suc (18446744073709551615 - bits) = omega arith in
    rw (twos_high 9223372036854775808 18446744073709551615 bits refl h (omega arith), e)

-- ---- hexadecimal
hex_is : (count n : ℕ) → last_digits 16 count n ≡ hex_digits count n
unfolding hex_digits
hex_is zero n = refl
hex_is (suc count) n = rw (hex_is count (n / 16))

pub hex_long : (count n : ℕ) → length (hex_digits count n) ≡ count
unfolding hex_digits
hex_long zero n = refl
hex_long (suc count) n = rw (length-append, hex_long count (n / 16)) (omega arith)

module _ (count n k : ℕ) (least : 1 ≤ count) (most : count ≤ 16) (fits : n < 16 ^ count) (w : IsDigitCount 16 (min (max count 1) 16) n k) where
  pub as_many : k ≡ count
  as_many = by (dec_le k count) (rw same at w)
    where
      same : min (max count 1) 16 ≡ count
      same = omega arith

      by : Dec (k ≤ count) → IsDigitCount 16 count n k → k ≡ count
      by (yes l) (a, b, c) = omega arith
      by (no l) (a, b, c) =
          let p : 16 ^ count ≤ 16 ^ (k - 1) = pow-le-pow_right {n = 16} (omega arith) {i = count} {j = k - 1} (omega arith) in
          absurd (omega (arith, c (omega arith)))

  pub hex_spelt : (ds : List ℕ) → take k ds ≡ last_digits 16 k n → take k ds ≡ hex_digits count n
  hex_spelt ds e = e ∙ rw as_many (hex_is count n)
