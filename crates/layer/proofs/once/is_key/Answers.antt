-- An entry beyond the table is no key; else its text is compared.
use Rattle.layer.proofs.Repeating.{key_beyond, key_compared}
use borrow.Author.Rules.{rules}
use Rattle.layer.proofs.once.is_key.Goals as goal

pub returns-then-keys-k : goal.returns-then-keys-k
returns-then-keys-k c = search (rules, key_beyond)

pub returns : goal.returns
returns c = search (rules, key_compared)
