-- Below 2^63 the bits are the number; from there on it is a sign and what is missing to 2^64.
use native.Mathlib.Omega.{arith}
use Rattle.opened.proofs.Chains.{then_laid}
use Rattle.opened.proofs.Spelling.{below_half, from_half}
use Rattle.opened.proofs.values.append_signed.Goals as goal

pub returns-then-bits-lt9223372036854775808 : goal.returns-then-bits-lt9223372036854775808
returns-then-bits-lt9223372036854775808 c = let a = c.args in rw (below_half a.name.now a.bits c.if-bits-lt9223372036854775808.true) c.append_named.ensures

pub append_named-requires-2 : goal.append_named-requires-2
append_named-requires-2 c = omega (arith, c.append-at.ensures.answer)

pub returns : goal.returns
returns c =
    let a = c.args in
    rw (from_half a.bits c.if-bits-lt9223372036854775808.false (omega arith))
    (then_laid a.name.now _ a.text.now 0 (omega arith) c.append-at.ensures c.append_named-2.ensures)
