-- It is counted; a count of 0 becomes 1, another stays.
use Rattle.encoder.proofs.Drafting.{skip_is}
use borrow.Author.Rules.{rules}
use Rattle.encoder.proofs.draft.skip_point.Goals as goal

pub returns : goal.returns
returns c = search (rules, skip_is)
