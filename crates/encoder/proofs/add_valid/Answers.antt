-- COORD, then the point.
use Rattle.encoder.proofs.Calls.{add_coord, add_asked, add_within, add_edges}
use Rattle.encoder.proofs.Said.{passed_none}
use Rattle.refusal.specs.declared.Refusal.TheVariants.{Coord}
use Rattle.encoder.proofs.add_valid.Goals as goal

pub returns-then-not-is_coord : goal.returns-then-not-is_coord
returns-then-not-is_coord c =
    let g = add_coord c.args.s c.args.p c.args.words.now c.requires _ c.is_coord.ensures c.if-not-is_coord.true-raw in record { answer = g; edges = passed_none _ _ Coord c.args.s g.answer }

pub draw-requires : goal.draw-requires
draw-requires c = let whole = add_asked c.args.s c.args.p c.args.words.now c.requires _ c.is_coord.ensures c.if-not-is_coord.false-raw in record { words_value = whole.0; p_value = whole.1 }

pub returns : goal.returns
returns c = record { answer = add_within c.args.s c.args.p c.args.words.now c.requires _ c.is_coord.ensures c.if-not-is_coord.false-raw c.draw.ensures.answer; edges = add_edges c.args.s c.args.p c.args.words.now c.requires _ c.is_coord.ensures c.if-not-is_coord.false-raw _ _ c.draw.ensures.edges }
