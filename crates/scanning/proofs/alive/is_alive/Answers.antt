-- A law for each depth.
use borrow.Author.Rules.{rules}
use Rattle.scanning.proofs.Living.{sound_at, alive_outside, alive_one, alive_two}
use Rattle.scanning.proofs.alive.is_alive.Goals as goal

pub is_roomy-r-requires : goal.is_roomy-r-requires
is_roomy-r-requires c = search (rules, sound_at)

pub is_roomy-r-requires-in-Two : goal.is_roomy-r-requires-in-Two
is_roomy-r-requires-in-Two c = search (rules, sound_at)

pub returns-in-Outside : goal.returns-in-Outside
returns-in-Outside c = search (rules, alive_outside)

pub returns-in-One : goal.returns-in-One
returns-in-One c = search (rules, alive_one)

pub returns-in-Two : goal.returns-in-Two
returns-in-Two c = search (rules, alive_two)
