-- Too little room, any room with a byte to spare, and exactly one byte too many.
use borrow.Author.Rules.{rules}
use Rattle.scanning.proofs.Living.{room_short, room_spare, room_exact}
use Rattle.scanning.proofs.alive.has_room.Goals as goal

pub returns-then-room-more : goal.returns-then-room-more
returns-then-room-more c = search (rules, room_short)

pub returns-then-spare : goal.returns-then-spare
returns-then-spare c = search (rules, room_spare)

pub returns : goal.returns
returns c = search (rules, room_exact)
