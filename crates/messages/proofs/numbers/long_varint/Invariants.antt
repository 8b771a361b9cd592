-- The bytes up to i have the highest bit, n is the number of their other bits, and what stands from i on decides.
use Rattle.messages.proofs.Reading.{Long}
use Rattle.messages.proofs.numbers.long_varint.Given as goal

abbrev pub invariant-loop-i : goal.invariant-loop-i
invariant-loop-i l = Long l.src l.at l.n l.unit l.i
