-- The test is the definition's.
use Rattle.opened.proofs.ByKind.{is_false, is_true}
use Rattle.opened.proofs.values.append_bool.Goals as goal

pub returns-then-bits-eq0 : goal.returns-then-bits-eq0
returns-then-bits-eq0 c = rw (is_false c.args.bits c.if-bits-eq0.true) c.append.ensures

pub returns : goal.returns
returns c = rw (is_true c.args.bits c.if-bits-eq0.false) c.append-2.ensures
