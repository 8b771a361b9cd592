-- The test is the definition's.
use native.Mathlib.Omega.{arith}
use borrow.Author.Tests.{lt-ltb, le-ltb}
use Rattle.replay.specs.Printing.{size_of}
use Rattle.replay.proofs.size.Goals as goal

pub returns-then-count-lt9223372036854775808 : goal.returns-then-count-lt9223372036854775808
unfolding size_of
returns-then-count-lt9223372036854775808 c = rw (lt-ltb c.args.count 9223372036854775808 (omega arith))

pub returns : goal.returns
unfolding size_of
returns c = rw (le-ltb c.args.count 9223372036854775808 (omega arith))
