-- By the flags; then what the encoder said of the state that C's stands for.
use mir.Facts.{to_z-of_z}
use Rattle.encoder.specs.Adding.{point_at}
use Rattle.brinepost.proofs.Tellings.{add_flagged, add_told}
use borrow.Author.Rules.{rules}
use Rattle.brinepost.proofs.calls.bp_encoder_add_point.Goals as goal

pub returns-then-not-are_flags : goal.returns-then-not-are_flags
returns-then-not-are_flags c = search (rules, add_flagged)

pub returns : goal.returns
returns c =
    add_told _ _ _ c.are_flags.ensures c.if-not-are_flags.false-raw _ c.state_of-s.ensures c.add_point-r.result _ _ c.answered.ensures (point_at c.args.x c.args.y)
    (rw (to_z-of_z c.ranges.x, to_z-of_z c.ranges.y) at c.add_point-r.ensures.answer)
    (rw (to_z-of_z c.ranges.x, to_z-of_z c.ranges.y) at c.add_point-r.ensures.edges)
