-- The last point again, or a push.
use Rattle.encoder.proofs.Marks.{emit_still, push_fits, emit_next}
use borrow.Author.Rules.{rules}
use Rattle.encoder.proofs.pen.emit.Goals as goal

pub returns-then-is_same : goal.returns-then-is_same
returns-then-is_same c = search (rules, emit_still)

pub push_point-requires : goal.push_point-requires
push_point-requires c = search (rules, push_fits)

pub returns : goal.returns
returns c = search (rules, emit_next)
