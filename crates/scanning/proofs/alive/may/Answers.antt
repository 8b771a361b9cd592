-- A body is asked for itself; the rest is the definition.
use borrow.Author.Rules.{rules}
use Rattle.scanning.proofs.Living.{may_body}
use Rattle.scanning.proofs.alive.may.Goals as goal

pub returns-in-ABody : goal.returns-in-ABody
returns-in-ABody c = search (rules, may_body)
