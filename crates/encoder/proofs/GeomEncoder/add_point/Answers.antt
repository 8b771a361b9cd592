-- STATE, then the point as it is given: what the machine reads back from the bits of x and y is x and y.
use mir.Facts.{to_z-of_z}
use Rattle.encoder.proofs.States.{yes_of}
use Rattle.encoder.proofs.Calls.{add_state}
use Rattle.encoder.proofs.Said.{passed_none}
use Rattle.refusal.specs.declared.Refusal.TheVariants.{State}
use Rattle.encoder.proofs.GeomEncoder.add_point.Goals as goal

pub returns-then-not-is_valid : goal.returns-then-not-is_valid
returns-then-not-is_valid c =
    let g = add_state c.args.self _ c.args.words.now _ c.is_valid.ensures c.if-not-is_valid.true-raw in record { answer = g; edges = passed_none _ _ State c.args.self g.answer }

pub add_valid-requires : goal.add_valid-requires
add_valid-requires c = yes_of _ _ c.is_valid.ensures c.if-not-is_valid.false-raw

pub returns : goal.returns
returns c = record { answer = rw (to_z-of_z c.ranges.x, to_z-of_z c.ranges.y) at c.add_valid.ensures.answer; edges = rw (to_z-of_z c.ranges.x, to_z-of_z c.ranges.y) at c.add_valid.ensures.edges }
