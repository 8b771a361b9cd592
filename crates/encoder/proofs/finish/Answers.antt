-- Points keep their state; the others are cleared, one word further where they are closed.
use Rattle.encoder.proofs.Calls.{points_kept, left_open, closed_by}
use borrow.Author.Rules.{rules}
use Rattle.encoder.proofs.finish.Goals as goal

pub returns-then-s-eq-POINT : goal.returns-then-s-eq-POINT
returns-then-s-eq-POINT c = search (rules, points_kept)

pub returns-then-s : goal.returns-then-s
returns-then-s c = search (rules, closed_by)

pub returns : goal.returns
returns c = search (rules, left_open)
