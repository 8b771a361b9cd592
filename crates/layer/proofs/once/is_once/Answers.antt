-- The key's part of the bytes is looked for among the tags behind.
use Rattle.layer.proofs.Placing.{key_read}
use Rattle.layer.proofs.Repeating.{once_told}
use borrow.Author.Rules.{rules}
use Rattle.layer.proofs.once.is_once.Goals as goal

pub slice_bounds-key_given-end-2 : goal.slice_bounds-key_given-end-2
slice_bounds-key_given-end-2 c = search (rules, key_read)

pub returns : goal.returns
returns c = search (rules, once_told)
