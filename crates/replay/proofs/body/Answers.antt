-- What is lent runs from behind the record's first number to the place after it.
use native.Mathlib.Omega.{arith}
use Rattle.replay.proofs.Parts.{body_nowhere, body_there}
use Rattle.replay.proofs.body.Goals as goal

pub returns-then-end-at : goal.returns-then-end-at
returns-then-end-at c = body_nowhere c.args.cases.now c.args.at c.past-end.result c.past-end.ensures (omega arith)

pub returns : goal.returns
returns c = body_there c.args.cases.now c.args.at c.past-end.result c.past-end.ensures
