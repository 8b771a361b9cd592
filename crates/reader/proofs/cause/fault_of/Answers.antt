-- Two go by no verdict: there is one for all bytes.
use Rattle.reader.proofs.Telling.{fault_outside, fault_no_room}
use Rattle.reader.proofs.cause.fault_of.Goals as goal

pub returns-in-Outside : goal.returns-in-Outside
returns-in-Outside c = rw c.in-Outside.is (fault_outside _)

pub returns-in-NoRoom : goal.returns-in-NoRoom
returns-in-NoRoom c = rw c.in-NoRoom.is (fault_no_room _)
