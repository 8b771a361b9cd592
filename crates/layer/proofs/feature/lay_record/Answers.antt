-- The six words of the head and the geometry, one behind the other, are the record.
use Rattle.layer.proofs.Opening.{record_laid}
use borrow.Author.Rules.{rules}
use Rattle.layer.proofs.feature.lay_record.Goals as goal

pub returns : goal.returns
returns c = search (rules, record_laid)
