-- The part that is lent is the key, and what is looked up is what a scan finds.
use Rattle.layer.proofs.Knowing.{key_there, key_told}
use borrow.Author.Rules.{rules}
use Rattle.layer.proofs.need.key_known.Goals as goal

pub returns-in-Some : goal.returns-in-Some
returns-in-Some c = search (rules, key_there)

pub returns-in-None : goal.returns-in-None
returns-in-None c = search (rules, key_told)
