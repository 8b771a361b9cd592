-- The head is the varint of the key.
use Rattle.wire.proofs.Fields.{head_size}
use borrow.Author.Rules.{rules}
use Rattle.wire.proofs.head.head_size.Goals as goal

pub returns : goal.returns
returns c = search (rules, head_size)
