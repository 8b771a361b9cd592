-- By the flags; then what the encoder said of the grid point, for the state and the map that C's numbers stand for.
use Rattle.affine.specs.Mapping.{surveyed}
use Rattle.brinepost.specs.Surveyed.{map_of}
use Rattle.brinepost.proofs.Tellings.{add_flagged, add_told}
use borrow.Author.Rules.{rules}
use Rattle.brinepost.proofs.surveyed.bp_encoder_add_surveyed.Goals as goal

pub returns-then-not-are_flags : goal.returns-then-not-are_flags
returns-then-not-are_flags c = search (rules, add_flagged)

pub returns : goal.returns
returns c =
    let a = c.args in
    add_told _ _ _ c.are_flags.ensures c.if-not-are_flags.false-raw _ c.state_of-s.ensures c.add_surveyed-r.result _ _ c.answered.ensures (surveyed (map_of a.map) a.x a.y)
    (rw c.map_of-m.ensures at c.add_surveyed-r.ensures.answer)
    (rw c.map_of-m.ensures at c.add_surveyed-r.ensures.edges)
