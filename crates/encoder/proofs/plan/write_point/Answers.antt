-- Nothing where the point is the last one again; else a command where one is due, and the two steps behind it.
use mathlib.Core.Path.{refl}
use Rattle.encoder.proofs.Drafting.{word_asked, steps_asked, written}
use borrow.Author.Rules.{rules}
use Rattle.encoder.proofs.plan.write_point.Goals as goal

pub write_command-requires : goal.write_command-requires
write_command-requires c = word_asked c.args.d c.args.next c.args.q _ c.requires _ c.is_again.ensures c.if-is_again.false

pub write_steps-requires : goal.write_steps-requires
write_steps-requires c = let whole = steps_asked c.args.d c.args.next c.args.q _ c.requires _ c.is_again.ensures c.if-is_again.false _ c.then_some.ensures _ c.last_of-from.ensures _ (search rules) in record { at_in_bounds = whole.0; coord = whole.1.0; coord_2 = whole.1.1 }

pub returns : goal.returns
returns c = written c.args.d c.args.next c.args.q _ c.requires _ c.is_again.ensures c.if-is_again.false _ _ _ refl c.write_command.ensures _ c.then_some.ensures _ c.last_of-from.ensures c.write_steps.ensures
