-- What `add_bits` gives of the number's bits.
use Rattle.layer.proofs.ByKind.{tag_signed}
use borrow.Author.Rules.{rules}
use Rattle.layer.proofs.tags.add_tag_sint.Goals as goal

pub returns : goal.returns
returns c = search (rules, tag_signed)
