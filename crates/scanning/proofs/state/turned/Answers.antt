-- One law for each way of the code.
use borrow.Author.Rules.{rules}
use Rattle.scanning.proofs.Turning.{turn_none, turn_one, turn_shut_two, turn_two}
use Rattle.scanning.proofs.Living.{sound_at}
use Rattle.scanning.proofs.state.turned.Goals as goal

pub moved-x-requires : goal.moved-x-requires
moved-x-requires c = search (rules, sound_at)

pub moved-x-requires-in-One : goal.moved-x-requires-in-One
moved-x-requires-in-One c = search (rules, sound_at)

pub returns-then-n-eq0-2 : goal.returns-then-n-eq0-2
returns-then-n-eq0-2 c = search (rules, turn_shut_two)

pub moved-x-requires-in-Two : goal.moved-x-requires-in-Two
moved-x-requires-in-Two c = search (rules, sound_at)

pub returns-in-Outside : goal.returns-in-Outside
returns-in-Outside c = search (rules, turn_none)

pub returns-else-n-eq0 : goal.returns-else-n-eq0
returns-else-n-eq0 c = search (rules, turn_one)

pub returns-else-n-eq0-2 : goal.returns-else-n-eq0-2
returns-else-n-eq0-2 c = search (rules, turn_two)
