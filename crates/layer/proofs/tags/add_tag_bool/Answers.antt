-- What `add_bits` gives of the bit.
use Rattle.layer.proofs.ByKind.{tag_bits_lem}
use borrow.Author.Rules.{rules}
use Rattle.layer.proofs.tags.add_tag_bool.Goals as goal

pub returns : goal.returns
returns c = search (rules, tag_bits_lem)
