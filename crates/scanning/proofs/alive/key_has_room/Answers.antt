-- A key that may be one byte longer has a byte to spare, and so has one of which the content may.
use borrow.Author.Rules.{rules}
use Rattle.scanning.proofs.Living.{key_room_longer, key_room_last}
use Rattle.scanning.proofs.alive.key_has_room.Goals as goal

pub returns-then-i-lt-BEFORE_LAST : goal.returns-then-i-lt-BEFORE_LAST
returns-then-i-lt-BEFORE_LAST c = search (rules, key_room_longer)

pub returns : goal.returns
returns c = search (rules, key_room_last)
