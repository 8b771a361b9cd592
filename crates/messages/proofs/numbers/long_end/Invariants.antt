-- The bytes up to i have the highest bit, so that what stands from i on decides; behind five of them the whole reading does.
use Rattle.messages.proofs.Reading.{Far}
use Rattle.messages.proofs.numbers.long_end.Given as goal

abbrev pub invariant-loop-i : goal.invariant-loop-i
invariant-loop-i l = Far l.src l.at l.i
