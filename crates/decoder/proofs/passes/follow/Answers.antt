-- Both sums are the position that the pair leads to, which is known to be within i32.
use borrow.Author.Rules.{rules}
use Rattle.decoder.proofs.Running.{follow_x, follow_y, follow_done}
use Rattle.decoder.proofs.passes.follow.Goals as goal

pub returns : goal.returns
returns c = search (rules, follow_done)
