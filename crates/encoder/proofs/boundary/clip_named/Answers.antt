-- The clip of a good box and two coordinates is never refused.
use Rattle.encoder.proofs.Boundaries.{clip_done, clip_refused}
use borrow.Author.Rules.{rules}
use Rattle.encoder.proofs.boundary.clip_named.Goals as goal

pub returns-in-Ok : goal.returns-in-Ok
returns-in-Ok c = search (rules, clip_done, clip_refused)

pub returns-in-Err : goal.returns-in-Err
returns-in-Err c = search (rules, clip_done, clip_refused)
