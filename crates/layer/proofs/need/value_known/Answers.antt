-- The part that is lent is the text, and what is looked up is what a scan finds.
use Rattle.layer.proofs.Knowing.{value_there, value_told}
use borrow.Author.Rules.{rules}
use Rattle.layer.proofs.need.value_known.Goals as goal

pub returns-in-Some : goal.returns-in-Some
returns-in-Some c = search (rules, value_there)

pub returns-in-None : goal.returns-in-None
returns-in-None c = search (rules, value_told)
