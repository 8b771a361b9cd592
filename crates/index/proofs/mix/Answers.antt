-- The number is the definition's, each word widened.
use Rattle.index.proofs.Hashing.{mixed_is}
use borrow.Author.Rules.{rules}
use Rattle.index.proofs.mix.Goals as goal

pub returns : goal.returns
returns c = search (rules, mixed_is)
