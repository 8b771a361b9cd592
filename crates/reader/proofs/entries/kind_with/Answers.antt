-- By the two keys: a law for each way.
use borrow.Author.Rules.{rules}
use Rattle.reader.proofs.Lowest.{no_kind, first_kind, higher_kind, lower_kind}
use Rattle.reader.proofs.entries.kind_with.Goals as goal

pub returns-then-not-is_kind : goal.returns-then-not-is_kind
returns-then-not-is_kind c = search (rules, no_kind)

pub returns-then-kept-eq0 : goal.returns-then-kept-eq0
returns-then-kept-eq0 c = search (rules, first_kind)

pub returns-then-kept-f : goal.returns-then-kept-f
returns-then-kept-f c = search (rules, higher_kind)

pub returns : goal.returns
returns c = search (rules, lower_kind)
