-- The one emission is that of the point; ROOM, or its words.
use mathlib.Core.Path.{refl}
use Rattle.encoder.proofs.Plans.{alone_asked, alone_uncounted, alone_room, alone_writable, alone_ended, alone_done}
use Rattle.encoder.proofs.draw_alone.Goals as goal

pub emit_point-last-requires : goal.emit_point-last-requires
emit_point-last-requires c = let whole = alone_asked c.args.s c.args.d c.args.p c.args.q c.requires in record { ready = whole.0; few = whole.1 }

pub returns-then-not-are_counts : goal.returns-then-not-are_counts
returns-then-not-are_counts c = record { answer = alone_uncounted c.args.s c.args.d c.args.p c.args.q c.requires c.emit_point-last.result c.emit_point-last.ensures c.args.words.now _ c.are_counts.ensures c.if-not-are_counts.true-raw; edges = refl }

pub returns-then-room-pen : goal.returns-then-room-pen
returns-then-room-pen c = record { answer = alone_room c.args.s c.args.d c.args.p c.args.q c.requires c.emit_point-last.result c.emit_point-last.ensures c.args.words.now _ c.are_counts.ensures c.if-not-are_counts.false-raw _ c.room-room.ensures c.if-room-pen.true; edges = refl }

pub write_point-requires : goal.write_point-requires
write_point-requires c =
    alone_writable c.args.s c.args.d c.args.p c.args.q c.requires c.emit_point-last.result c.emit_point-last.ensures c.args.words.now _ c.are_counts.ensures c.if-not-are_counts.false-raw _ c.room-room.ensures c.if-room-pen.false

pub state_of-requires : goal.state_of-requires
state_of-requires c = let whole = alone_ended c.args.s c.args.d c.args.p c.args.q c.requires c.emit_point-last.result c.emit_point-last.ensures c.args.words.now _ c.are_counts.ensures c.if-not-are_counts.false-raw _ c.room-room.ensures c.if-room-pen.false c.set_end.result c.set_end.ensures in record { count_bound = whole.0; d_value = whole.1 }

pub returns : goal.returns
returns c =
    let g = alone_done c.args.s c.args.d c.args.p c.args.q c.requires c.emit_point-last.result c.emit_point-last.ensures c.args.words.now _ c.are_counts.ensures c.if-not-are_counts.false-raw _ c.room-room.ensures c.if-room-pen.false _ c.write_point.ensures c.set_end.result c.set_end.ensures _ c.state_of.ensures in record { answer = g; edges = c.no_edges.ensures }
