-- A list that has no more has nothing behind.
use mathlib.Core.Path.{sym, ◌∙◌}
use native.Mathlib.Omega.{arith}
use lib.ListN.{length, drop_of_length-le}
use Rattle.promise.proofs.Parts.{lent}
use Rattle.reader.proofs.parts.behind.Goals as goal

pub returns-then-src-n : goal.returns-then-src-n
returns-then-src-n c =
    let s = c.args.src.now in
    lent (length s) s ∙ (drop_of_length-le s {i = length s} (omega arith) ∙ sym (drop_of_length-le s {i = c.args.n} (omega (arith, c.if-src-n.true))))

pub returns : goal.returns
returns c = lent c.args.n c.args.src.now
