-- Both returns are the definition's case.
use Rattle.layer.proofs.many.all_read.Goals as goal

pub returns-then-stands : goal.returns-then-stands
returns-then-stands c = rw c.if-stands.true

pub returns : goal.returns
returns c = rw c.if-stands.false
