-- Twice the number from zero on; below it, twice what is left to the largest, and one.
use native.Mathlib.Omega.{arith}
use Rattle.wire.proofs.Numbers.{zigzag_low, zigzag_high}
use Rattle.wire.proofs.sint.zigzag.Goals as goal

pub returns-then-bits-lt9223372036854775808 : goal.returns-then-bits-lt9223372036854775808
returns-then-bits-lt9223372036854775808 c = zigzag_low _ (omega arith)

pub returns : goal.returns
returns c = zigzag_high _ (omega arith) (omega arith)
