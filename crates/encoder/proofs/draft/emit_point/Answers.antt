-- The last point again, or a push: taken out, behind a command, and the two steps.
use Rattle.encoder.proofs.Drafting.{next_push, base_fits}
use borrow.Author.Rules.{rules}
use Rattle.encoder.proofs.draft.emit_point.Goals as goal

pub push_point-requires : goal.push_point-requires
push_point-requires c = let whole = base_fits c.args.d c.args.q c.requires.ready c.is_ring-ring.result _ c.before_push-base.ensures in record { count_le_plan_limit = whole.0; used_le_plan_limit = whole.1 }

pub returns : goal.returns
returns c = search (rules, next_push)
