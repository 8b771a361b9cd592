-- STATE, then COORD, else ROOM.
use Rattle.edge_job.proofs.Calls.{for_state, for_coord, for_room}
use borrow.Author.Rules.{rules}
use Rattle.edge_job.proofs.refuse.Goals as goal

pub returns-then-not-is_valid : goal.returns-then-not-is_valid
returns-then-not-is_valid c = search (rules, for_state)

pub returns-then-not-is_coord : goal.returns-then-not-is_coord
returns-then-not-is_coord c = search (rules, for_coord)

pub returns : goal.returns
returns c = search (rules, for_room)
