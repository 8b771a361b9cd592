-- Laws of what stands in 64 bits: the two cases of zigzag, its range and its way back; an int below zero takes ten bytes.
use Prim.Native.Nat.{ℕ, ◌+◌, ◌-◌, ◌*◌, ◌≤◌, ◌<◌}
use mathlib.Core.Path.{◌≡◌, refl, sym, ap, ◌∙◌}
use mathlib.Core.Bool.{Bool, true, false}
use native.Mathlib.Omega.{arith}
use borrow.Author.Tests.{lt-ltb, ltb-true, ltb-false}
use lib.Dec.{ltb}
use lib.ListN.{length}
use Rattle.whole.specs.Twos.{signed64}
use Rattle.whole.proofs.Twos.{twos_high}
use Rattle.words.specs.Params.{param, unparam}
use Rattle.words.proofs.Params.{param_pos, param_neg, unparam_param}
use Rattle.wire.specs.Varints.{varint}
use Rattle.wire.specs.Numbers.{zigzag}
use Rattle.wire.proofs.Varints.{varint_size}

pub zigzag_low : (bits : ℕ) → bits < 9223372036854775808 → 2 * bits ≡ zigzag bits
unfolding zigzag
zigzag_low bits h = rw (lt-ltb bits 9223372036854775808 h) (sym (param_pos bits))

pub zigzag_high : (bits : ℕ) → 9223372036854775808 ≤ bits → bits < 18446744073709551616 → 2 * (18446744073709551615 - bits) + 1 ≡ zigzag bits
unfolding zigzag
zigzag_high bits h f =
    sym (ap param (twos_high 9223372036854775808 18446744073709551615 bits refl h (omega arith)) ∙ param_neg (18446744073709551615 - bits))

pub zigzag_fits : (bits : ℕ) → bits < 18446744073709551616 → zigzag bits < 18446744073709551616
zigzag_fits bits f = by (ltb bits 9223372036854775808) refl
  where
    by : (b : Bool) → ltb bits 9223372036854775808 ≡ b → zigzag bits < 18446744073709551616
    by true e = omega (arith, zigzag_low bits (ltb-true bits 9223372036854775808 e), ltb-true bits 9223372036854775808 e)
    by false e = let h = ltb-false bits 9223372036854775808 e in omega (arith, zigzag_high bits h f)

pub zigzag_back : (bits : ℕ) → unparam (zigzag bits) ≡ signed64 bits
unfolding zigzag
zigzag_back bits = unparam_param (signed64 bits)

-- an int goes out as its 64 bits: below zero these are large
pub negative_ten : (bits : ℕ) → 9223372036854775808 ≤ bits → bits < 18446744073709551616 → length (varint bits) ≡ 10
negative_ten bits h f = sym (varint_size 9 bits (omega arith) (omega arith) (omega arith))
