-- A count is set only where a command stands below the used words, and ClosePath has the room that was asked for.
use Rattle.encoder.proofs.Calls.{end_empty, end_used, end_room, end_fits, end_done}
use borrow.Author.Rules.{rules}
use Rattle.encoder.proofs.complete_valid.Goals as goal

pub returns-then-s : goal.returns-then-s
returns-then-s c = search (rules, end_empty, end_used, end_room, end_done)

pub finish-next-requires : goal.finish-next-requires
finish-next-requires c = search (rules, end_empty, end_used, end_room, end_done)

pub returns-then-room-next : goal.returns-then-room-next
returns-then-room-next c = search (rules, end_empty, end_used, end_room, end_done)

pub write_end-requires : goal.write_end-requires
write_end-requires c = search (rules, end_fits)

pub returns : goal.returns
returns c = search (rules, end_empty, end_used, end_room, end_done)
