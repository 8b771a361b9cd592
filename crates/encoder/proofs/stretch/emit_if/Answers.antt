-- Nothing for an end that stayed, one emission for one that moved.
use Rattle.encoder.proofs.Marks.{moved_coord}
use Rattle.encoder.proofs.stretch.emit_if.Goals as goal

pub emit-requires : goal.emit-requires
emit-requires c = record { able = c.requires.able; coord = moved_coord c.args.ring c.args.pen _ c.args.words.now _ c.in-Some.is c.requires.end_value }
