-- One law for each way of the code.
use borrow.Author.Rules.{rules}
use Rattle.scanning.proofs.Phases.{packing_more}
use Rattle.scanning.proofs.moves.packing.Goals as goal

pub returns : goal.returns
returns c = search (rules, packing_more)
