use borrow.Author.Rules.{rules}
use Rattle.messages.proofs.Packed.{packed_start, packed_end, packed_one, packed_more, packed_less, packed_none}
use Rattle.messages.proofs.numbers.are_varints.Goals as goal

pub loop-i-init : goal.loop-i-init
loop-i-init c = search (rules, packed_start)

pub loop-i-preserved-then-src-i-lt-MORE : goal.loop-i-preserved-then-src-i-lt-MORE
loop-i-preserved-then-src-i-lt-MORE c = search (rules, packed_one)

pub returns-in_default : goal.returns-in_default
returns-in_default c = search (rules, packed_none)

pub loop-i-smaller : goal.loop-i-smaller
loop-i-smaller c = search (rules, packed_less)

pub loop-i-preserved : goal.loop-i-preserved
loop-i-preserved c = search (rules, packed_more)

pub returns : goal.returns
returns c = search (rules, packed_end)
