-- What `add_tag` gives of the value's three words.
use Rattle.layer.proofs.ByKind.{tag_value}
use borrow.Author.Rules.{rules}
use Rattle.layer.proofs.tags.add_bits.Goals as goal

pub returns : goal.returns
returns c = search (rules, tag_value)
