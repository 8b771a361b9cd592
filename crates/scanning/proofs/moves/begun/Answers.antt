-- One law for each way of the code.
use borrow.Author.Rules.{rules}
use Rattle.scanning.proofs.Phases.{begun_any, begun_varints, begun_within}
use Rattle.scanning.proofs.moves.begun.Goals as goal

pub returns-in-Any : goal.returns-in-Any
returns-in-Any c = search (rules, begun_any)

pub returns-in-Varints : goal.returns-in-Varints
returns-in-Varints c = search (rules, begun_varints)

pub returns-in-Within : goal.returns-in-Within
returns-in-Within c = search (rules, begun_within)
