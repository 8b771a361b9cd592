-- STATE, then the part.
use Rattle.encoder.proofs.Calls.{end_state}
use borrow.Author.Rules.{rules}
use Rattle.encoder.proofs.GeomEncoder.complete_geom.Goals as goal

pub returns-then-not-is_valid : goal.returns-then-not-is_valid
returns-then-not-is_valid c = search (rules, end_state)
