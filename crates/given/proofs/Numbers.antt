-- Numbers go out as they were given: the halves of 64 bits are those bits, and two's complement at 64 bits is undone by reading it so.
use Prim.Native.Nat.{ℕ, suc, ◌-◌, ◌%◌, ◌/◌, ◌<◌}
use mathlib.Core.Path.{◌≡◌, refl, ap, ◌∙◌}
use native.Mathlib.Omega.{arith}
use lib.IntN.{ℤ, pos, negsuc}
use borrow.Author.Tests.{lt-ltb}
use Rattle.whole.specs.Twos.{wide, signed64}
use Rattle.whole.proofs.Twos.{twos_high}
use Rattle.words.specs.Params.{param}
use Rattle.wire.specs.Numbers.{zigzag}
use Rattle.layer.specs.Calls.{bits_of}
use Rattle.given.specs.Given.{bits64}
use Rattle.given.specs.Asked.{Int64}

pub halves : (n : ℕ) → wide (n % 4294967296) (n / 4294967296) ≡ n
halves n = omega arith

pub low_half : (low high : ℕ) → low < 4294967296 → wide low high % 4294967296 ≡ low
low_half low high h = omega arith

pub high_half : (low high : ℕ) → low < 4294967296 → wide low high / 4294967296 ≡ high
high_half low high h = omega arith

pub bits_are : (n : ℤ) → bits_of n ≡ bits64 n
bits_are (pos n) = refl
bits_are (negsuc n) = omega arith

pub signed_back : (n : ℤ) → Int64 n → signed64 (bits64 n) ≡ n
signed_back (pos n) h = rw (lt-ltb n 9223372036854775808 h)
signed_back (negsuc n) h =
    twos_high 9223372036854775808 18446744073709551615 (18446744073709551616 - suc n) refl (omega arith) (omega arith)
    ∙ ap negsuc (omega arith)

pub zigzag_is : (n : ℤ) → Int64 n → zigzag (bits64 n) ≡ param n
unfolding zigzag
zigzag_is n h = ap param (signed_back n h)
