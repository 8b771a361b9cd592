-- What creating said, of the kind that was asked for, is taken into the hand.
use Rattle.tile_run.proofs.Handling.{strict_held, plain_held}
use borrow.Author.Rules.{rules}
use Rattle.tile_run.proofs.hand.create.Goals as goal

pub returns-then-strict : goal.returns-then-strict
returns-then-strict c = search (rules, strict_held)

pub returns : goal.returns
returns c = search (rules, plain_held)
