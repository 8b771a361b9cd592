-- By the key: a law for each.
use borrow.Author.Rules.{rules}
use Rattle.reader.proofs.Lowest.{bits_sint, bits_false, bits_true, bits_other}
use Rattle.reader.proofs.entries.bits_of.Goals as goal

pub returns-then-f-eq-VALUE_SINT : goal.returns-then-f-eq-VALUE_SINT
returns-then-f-eq-VALUE_SINT c = search (rules, bits_sint)

pub returns-then-f-eq0 : goal.returns-then-f-eq0
returns-then-f-eq0 c = search (rules, bits_false)

pub returns-then-f-eq-VALUE_BOOL : goal.returns-then-f-eq-VALUE_BOOL
returns-then-f-eq-VALUE_BOOL c = search (rules, bits_true)

pub returns : goal.returns
returns c = search (rules, bits_other)
