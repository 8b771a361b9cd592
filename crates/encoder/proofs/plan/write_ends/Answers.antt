-- One end after the other.
use Rattle.encoder.proofs.Drafting.{second_fits}
use borrow.Author.Rules.{rules}
use Rattle.encoder.proofs.plan.write_ends.Goals as goal

pub write_if-requires-2 : goal.write_if-requires-2
write_if-requires-2 c = second_fits c.args.d c.args.plan c.args.ends _ _ (search rules) c.requires
